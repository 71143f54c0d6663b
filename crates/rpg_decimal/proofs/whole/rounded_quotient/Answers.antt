use Rattle.std.proofs.Common.{arith, ◌∙◌, to_z-of_z}
use Rattle.rpg_decimal.proofs.WholeLemmas.{back, half_is, half_bound}
use Rattle.rpg_decimal.proofs.whole.rounded_quotient.Goals as goal

pub returns-then-half-clause-value : goal.returns-then-half-clause-value
returns-then-half-clause-value c =
    let n_is = to_z-of_z c.ranges.n in
    back c.with_sign_of.type_inv ∙ (rw (n_is, c.quotient.ensures) at c.with_sign_of.ensures.value)
    ∙ half_is _ _ _ _ c.if-half.true (rw n_is at c.unsigned_abs-size.ensures.value)

pub returns-then-half-clause-bound : goal.returns-then-half-clause-bound
returns-then-half-clause-bound c =
    let n_is = to_z-of_z c.ranges.n in
    let size_is = rw n_is at c.unsigned_abs-size.ensures.value in
    let below = half_bound c.unsigned_abs-size.result c.args.divisor c.requires.divisor_low in
    rw (back c.with_sign_of.type_inv) (omega (arith, c.quotient.ensures))
