use Rattle.std.proofs.Common.{◌≡◌, ℕ, ◌*◌, ◌<◌, ◌≤◌, ◌^◌, ℤ, pos, ◌*ℤ◌, unsigned_abs, arith, ap, ap₂, ◌∙◌, to_z, of_z, to_z-of_z, FitsSigned, w64}
use Rattle.std.proofs.Math.Nat.{mul-le-mul_left}
use Rattle.rpg_decimal.proofs.WholeLemmas.{mag_below, ten_le, unsigned_abs-times}
use Rattle.rpg_decimal.proofs.ZonedLemmas.{plus_back}
use Rattle.rpg_decimal.proofs.order.lengthened.Goals as goal

-- the product as the code writes it
product_is : (c : goal.After-power_of_ten) → to_z w64 (of_z w64 c.args.value) *ℤ to_z w64 c.power_of_ten.result ≡ c.args.value *ℤ pos (10 ^ c.args.zeros)
product_is c =
    let few = ten_le c.args.zeros 3 c.requires.zeros_in in
    let power = c.power_of_ten.ensures.value in
    ap₂ (◌*ℤ◌) (to_z-of_z c.ranges.value) (plus_back c.power_of_ten.result (omega arith) ∙ ap pos power)

fits : (n : ℤ) (k : ℕ) → unsigned_abs n < 10 ^ 15 → k ≤ 3 → FitsSigned w64 (n *ℤ pos (10 ^ k))
fits n k h d =
    let few : unsigned_abs n * 10 ^ k ≤ unsigned_abs n * 10 ^ 3 = mul-le-mul_left (unsigned_abs n) (ten_le k 3 d) in
    let small : unsigned_abs (n *ℤ pos (10 ^ k)) < 2 ^ 63 = rw (unsigned_abs-times n (10 ^ k)) (omega arith) in
    record { sfits = mag_below (n *ℤ pos (10 ^ k)) (2 ^ 63) small }

pub overflow_mul-result : goal.overflow_mul-result
overflow_mul-result c = rw (product_is c) (fits c.args.value c.args.zeros c.requires.value_in c.requires.zeros_in)

pub returns : goal.returns
returns c = rw (product_is c) (to_z-of_z (fits c.args.value c.args.zeros c.requires.value_in c.requires.zeros_in))
