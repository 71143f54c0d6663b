use Rattle.std.proofs.Common.{◌≡◌, ◌<◌, ◌*◌, ◌^◌, ◌-◌, ◌≤◌, ℕ, ℤ, Bool, pos, ◌*ℤ◌, unsigned_abs, FitsSigned, arith, ap, ap₂, sym, ◌∙◌, to_z, of_z, to_z-of_z}
use Rattle.std.specs.Int.{w128}
use Rattle.rpg_decimal_words.specs.Fraction.{aligned_number, with_decimals}
use Rattle.rpg_decimal.proofs.WholeLemmas.{back, mag_below, times_is, aligned_up, aligned_down, aligned_same, unsigned_abs-times, unsigned_abs-with_sign}
use Rattle.rpg_decimal.proofs.whole.align.Goals as goal

-- what is shifted up fits
shift_fits : (half : Bool) (n : ℤ) (from to : ℕ) → from ≤ to → unsigned_abs (aligned_number half to (with_decimals n from)) < 10 ^ 37 → FitsSigned w128 (n *ℤ pos (10 ^ (to - from)))
shift_fits half n from to h below =
    let small = rw (aligned_up half n from to h, unsigned_abs-with_sign n (unsigned_abs n * 10 ^ (to - from))) at below in
    let size = unsigned_abs-times n (10 ^ (to - from)) in
    record { sfits = mag_below (n *ℤ pos (10 ^ (to - from))) (2 ^ 127) (omega arith) }

-- the product as the code writes it
product_is : (c : goal.After-from) → to_z w128 (of_z w128 c.args.n) *ℤ to_z w128 (of_z w128 c.from.result) ≡ c.args.n *ℤ pos (10 ^ (c.args.to.value - c.args.from.value))
product_is c = ap₂ (◌*ℤ◌) (to_z-of_z c.ranges.n) (back c.from.type_inv ∙ c.from.ensures ∙ ap pos c.power_of_ten.ensures.value)

pub returns-then-from-to : goal.returns-then-from-to
returns-then-from-to c = to_z-of_z c.ranges.n ∙ aligned_same c.args.half c.args.n c.args.from.value c.args.to.value c.if-from-to.true

pub overflow_mul-result : goal.overflow_mul-result
overflow_mul-result c = rw (product_is c) (shift_fits c.args.half c.args.n c.args.from.value c.args.to.value (omega arith) c.requires.result_in)

pub returns-then-from-to-2 : goal.returns-then-from-to-2
returns-then-from-to-2 c =
    rw (product_is c) (to_z-of_z (shift_fits c.args.half c.args.n c.args.from.value c.args.to.value (omega arith) c.requires.result_in))
    ∙ times_is c.args.n (10 ^ (c.args.to.value - c.args.from.value)) ∙ sym (aligned_up c.args.half c.args.n c.args.from.value c.args.to.value (omega arith))

pub returns : goal.returns
returns c =
    let value_is = rw (to_z-of_z c.ranges.n, c.from-2.ensures, c.power_of_ten-2.ensures.value) at c.rounded_quotient.ensures.value in
    back c.rounded_quotient.type_inv ∙ value_is ∙ sym (aligned_down c.args.half c.args.n c.args.from.value c.args.to.value (omega arith))
