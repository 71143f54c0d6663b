use Rattle.std.proofs.Common.{rules, ap₂, ◌∙◌, to_z-of_z, FitsSigned, w64}
use Rattle.rpg_decimal_words.specs.Fraction.{stored_number, with_decimals}
use Rattle.rpg_decimal.proofs.WholeLemmas.{back_64, sum_is, sum_fits, sum_below}
use Rattle.rpg_decimal.proofs.SumLemmas.{stored-sum}
use Rattle.rpg_decimal.proofs.arithmetic.added_by_scale.Goals as goal

pub returns-clause-value : goal.returns-clause-value
returns-clause-value c =
    let a = c.args.a in
    let b = c.args.b in
    let t = c.args.target in
    let fits_a : FitsSigned w64 a.value = search rules in
    let fits_b : FitsSigned w64 b.value = search rules in
    let x_is = rw (to_z-of_z fits_a, c.more_decimals-scale.ensures) at c.widened.ensures.value in
    let y_is = rw (to_z-of_z fits_b, c.more_decimals-scale.ensures) at c.widened-2.ensures.value in
    back_64 c.keep.type_inv ∙ c.keep.ensures.value
    ∙ ap₂ (λ n d. stored_number t.half t.dec t.len (with_decimals n d))
    (sum_is _ _ _ _ c.widened.type_inv c.widened-2.type_inv c.widened.ensures.bound c.widened-2.ensures.bound x_is y_is) c.more_decimals-scale.ensures
    ∙ stored-sum t.half t.dec t.len a.value b.value a.dec b.dec

pub overflow_add-sum : goal.overflow_add-sum
overflow_add-sum c = sum_fits c.widened.result c.widened-2.result c.widened.type_inv c.widened-2.type_inv c.widened.ensures.bound c.widened-2.ensures.bound

pub keep-requires : goal.keep-requires
keep-requires c = sum_below c.widened.result c.widened-2.result c.widened.type_inv c.widened-2.type_inv c.widened.ensures.bound c.widened-2.ensures.bound
