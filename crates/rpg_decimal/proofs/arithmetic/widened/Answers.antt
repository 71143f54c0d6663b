use Rattle.std.proofs.Common.{◌≡◌, ℕ, ◌<◌, ◌≤◌, ◌^◌, ℤ, pos, ◌*ℤ◌, unsigned_abs, arith, ap, ap₂, ◌∙◌, to_z, of_z, to_z-of_z, FitsSigned}
use Rattle.std.specs.Int.{w128}
use Rattle.rpg_decimal.proofs.WholeLemmas.{back, mag_below, shifted-below, unsigned_abs-times}
use Rattle.rpg_decimal.proofs.arithmetic.widened.Goals as goal

-- the product as the code writes it
product_is : (c : goal.After-from-2) → to_z w128 (of_z w128 c.from.result) *ℤ to_z w128 (of_z w128 c.from-2.result) ≡ c.args.value *ℤ pos (10 ^ c.args.scale)
product_is c =
    ap₂ (◌*ℤ◌) (back c.from.type_inv ∙ c.from.ensures ∙ to_z-of_z c.ranges.value)
    (back c.from-2.type_inv ∙ c.from-2.ensures ∙ ap pos c.power_of_ten.ensures.value)

below : (n : ℤ) (k : ℕ) → unsigned_abs n < 10 ^ 15 → k ≤ 18 → unsigned_abs (n *ℤ pos (10 ^ k)) < 10 ^ 33
below n k h d = rw (unsigned_abs-times n (10 ^ k)) (shifted-below (unsigned_abs n) k h d)

fits : (n : ℤ) (k : ℕ) → unsigned_abs n < 10 ^ 15 → k ≤ 18 → FitsSigned w128 (n *ℤ pos (10 ^ k))
fits n k h d = let small = below n k h d in record { sfits = mag_below (n *ℤ pos (10 ^ k)) (2 ^ 127) (omega arith) }

pub overflow_mul-result : goal.overflow_mul-result
overflow_mul-result c = rw (product_is c) (fits c.args.value c.args.scale c.requires.value_in c.requires.scale_in)

pub returns-clause-value : goal.returns-clause-value
returns-clause-value c = rw (product_is c) (to_z-of_z (fits c.args.value c.args.scale c.requires.value_in c.requires.scale_in))

pub returns-clause-bound : goal.returns-clause-bound
returns-clause-bound c =
    rw (product_is c, to_z-of_z (fits c.args.value c.args.scale c.requires.value_in c.requires.scale_in))
    (below c.args.value c.args.scale c.requires.value_in c.requires.scale_in)
