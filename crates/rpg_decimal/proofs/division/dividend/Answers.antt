use Rattle.std.proofs.Common.{◌≡◌, ℤ, pos, ◌^◌, ◌≤◌, ◌*◌, ◌*ℤ◌, unsigned_abs, arith, ap, ap₂, ◌∙◌, to_z-of_z}
use Rattle.std.specs.Int.{int_signum}
use Rattle.std.proofs.Math.Nat.{mul-le-mul_left}
use Rattle.std.proofs.lemmas.Int.{unsigned_abs-mul}
use Rattle.rpg_decimal.proofs.WholeLemmas.{back_64}
use Rattle.rpg_decimal.proofs.QuotientLemmas.{product_is, product_fits, signum-le}
use Rattle.rpg_decimal.proofs.division.dividend.Goals as goal

pub returns-clause-bound : goal.returns-clause-bound
returns-clause-bound c =
    let x = c.widened.result in
    let y = c.from.result in
    let y_is : y ≡ int_signum c.args.divisor = c.from.ensures ∙ back_64 c.signum.type_inv ∙ c.signum.ensures.value ∙ ap int_signum (to_z-of_z c.ranges.divisor) in
    let one : unsigned_abs y ≤ 1 = rw y_is (signum-le c.args.divisor) in
    let small : unsigned_abs x * unsigned_abs y ≤ unsigned_abs x * 1 = mul-le-mul_left (unsigned_abs x) one in
    rw (product_is x y c.widened.type_inv c.from.type_inv (omega (arith, c.widened.ensures.bound)), unsigned_abs-mul x y) (omega (arith, c.widened.ensures.bound))

pub overflow_mul-result : goal.overflow_mul-result
overflow_mul-result c =
    let x = c.widened.result in
    let y = c.from.result in
    let y_is : y ≡ int_signum c.args.divisor = c.from.ensures ∙ back_64 c.signum.type_inv ∙ c.signum.ensures.value ∙ ap int_signum (to_z-of_z c.ranges.divisor) in
    let one : unsigned_abs y ≤ 1 = rw y_is (signum-le c.args.divisor) in
    let small : unsigned_abs x * unsigned_abs y ≤ unsigned_abs x * 1 = mul-le-mul_left (unsigned_abs x) one in
    product_fits x y c.widened.type_inv c.from.type_inv (omega (arith, c.widened.ensures.bound))

pub returns-clause-value : goal.returns-clause-value
returns-clause-value c =
    let x = c.widened.result in
    let y = c.from.result in
    let y_is : y ≡ int_signum c.args.divisor = c.from.ensures ∙ back_64 c.signum.type_inv ∙ c.signum.ensures.value ∙ ap int_signum (to_z-of_z c.ranges.divisor) in
    let one : unsigned_abs y ≤ 1 = rw y_is (signum-le c.args.divisor) in
    let small : unsigned_abs x * unsigned_abs y ≤ unsigned_abs x * 1 = mul-le-mul_left (unsigned_abs x) one in
    product_is x y c.widened.type_inv c.from.type_inv (omega (arith, c.widened.ensures.bound))
    ∙ ap₂ (◌*ℤ◌) (c.widened.ensures.value ∙ ap (λ (z : ℤ). z *ℤ pos (10 ^ c.args.scale)) (to_z-of_z c.ranges.value)) y_is
