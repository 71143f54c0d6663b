use Rattle.std.proofs.Common.{◌≡◌, ap, ◌∙◌, rules, to_z, of_z}
use Rattle.std.specs.Int.{w64, w128}
use Rattle.rpg_decimal_words.specs.Whole.{fit}
use Rattle.rpg_decimal.proofs.WholeLemmas.{aligned_same, back_64}
use Rattle.rpg_program.specs.Act.{assigned}
use Rattle.rpg_machine_operations.proofs.arithmetic.kept_aligned.Goals as goal

pub returns-clause-value : goal.returns-clause-value
returns-clause-value c =
    let t = c.args.target in
    let wide : to_z w128 (of_z w128 c.from.result) ≡ c.from.result = search rules in
    let made : to_z w64 (of_z w64 c.signed.result) ≡ c.signed.result = search rules in
    let read : to_z w64 (of_z w64 c.args.b.value) ≡ c.args.b.value = search rules in
    back_64 c.fit.type_inv ∙ c.fit.ensures.value
    ∙ ap (λ n. fit n t.len) (wide ∙ c.from.ensures ∙ made ∙ c.signed.ensures.value ∙ ap (assigned c.args.is_negated) read)
    ∙ ap (λ n. fit n t.len) (aligned_same t.half (assigned c.args.is_negated c.args.b.value) c.args.b.dec t.dec c.requires)
