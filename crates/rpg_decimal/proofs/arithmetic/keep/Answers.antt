use Rattle.std.proofs.Common.{ap, ◌∙◌, to_z-of_z}
use Rattle.rpg_decimal_words.specs.Whole.{fit}
use Rattle.rpg_decimal.proofs.WholeLemmas.{back_64, aligned_same}
use Rattle.rpg_decimal.proofs.arithmetic.keep.Goals as goal

pub returns-then-from-target-clause-value : goal.returns-then-from-target-clause-value
returns-then-from-target-clause-value c =
    back_64 c.fit.type_inv
    ∙ (rw (to_z-of_z c.ranges.n) at c.fit.ensures.value)
    ∙ ap (λ z. fit z c.args.target.len) (aligned_same c.args.target.half c.args.n c.args.from.value c.args.target.dec c.if-from-target.true)
