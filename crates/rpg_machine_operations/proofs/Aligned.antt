-- Results of numbers whose decimals are those of the result.
use Rattle.std.proofs.Common.{◌≡◌, ℕ, ◌+◌, ◌*◌, ◌^◌, ◌<◌, eqb, true, Bool, ℤ, ◌*ℤ◌, unsigned_abs, refl, arith, FitsSigned, to_z, of_z, to_z-of_z}
use Rattle.std.proofs.lemmas.Bool.{eqb-true}
use Rattle.std.proofs.lemmas.Int.{unsigned_abs-mul}
use Rattle.std.specs.Int.{w128}
use lib.Signed.{mag}
use Rattle.rpg_decimal.proofs.WholeLemmas.{back, mag_below}
use Rattle.rpg_decimal_words.specs.Fraction.{minus, plus, stored_number, with_decimals}
use Rattle.rpg_program.specs.Act.{computed}
use Rattle.rpg_program.specs.declared.operation.Operator.{Operator}
use Rattle.rpg_program.specs.declared.operation.Operator.TheVariants.{Add, Multiply, Subtract}
use Rattle.rpg_memory.proofs.Entries.{and_true}
use Rattle.rpg_machine_operations.specs.Fixed.{are_aligned}

-- a sum, whose numbers both have the decimals of the result
pub sum_there : (f : Operator) (half : Bool) (dec len : ℕ) (x y : ℤ) (a b : ℕ) → are_aligned f a b dec ≡ true → f ≡ Add →
    stored_number half dec len (plus (with_decimals x dec) (with_decimals y dec)) ≡ stored_number half dec len (computed f (with_decimals x a) (with_decimals y b))
sum_there Add half dec len x y a b h is =
    let both = and_true (eqb a dec) (eqb b dec) h in
    rw (eqb-true a dec both.0, eqb-true b dec both.1) refl
sum_there Subtract half dec len x y a b h is = cc
sum_there Multiply half dec len x y a b h is = cc

-- a difference
pub difference_there : (f : Operator) (half : Bool) (dec len : ℕ) (x y : ℤ) (a b : ℕ) → are_aligned f a b dec ≡ true → f ≡ Subtract →
    stored_number half dec len (minus (with_decimals x dec) (with_decimals y dec)) ≡ stored_number half dec len (computed f (with_decimals x a) (with_decimals y b))
difference_there Add half dec len x y a b h is = cc
difference_there Subtract half dec len x y a b h is =
    let both = and_true (eqb a dec) (eqb b dec) h in
    rw (eqb-true a dec both.0, eqb-true b dec both.1) refl
difference_there Multiply half dec len x y a b h is = cc

-- the decimals of a product
pub product_there : (f : Operator) (a b dec : ℕ) → are_aligned f a b dec ≡ true → f ≡ Multiply → a + b ≡ dec
product_there Add a b dec h is = cc
product_there Subtract a b dec h is = cc
product_there Multiply a b dec h is = eqb-true (a + b) dec h

-- ---- a product in 128 bits

product_in : (x y : ℤ) → unsigned_abs x * unsigned_abs y < 10 ^ 33 → FitsSigned w128 (x *ℤ y)
product_in x y small =
    let size = unsigned_abs-mul x y in
    record { sfits = mag_below (x *ℤ y) (2 ^ 127) (omega arith) }

-- it doesn't wrap
pub product_fits : (x y : ℤ) → mag x < 2 ^ 127 → mag y < 2 ^ 127 → unsigned_abs x * unsigned_abs y < 10 ^ 33 → FitsSigned w128 (to_z w128 (of_z w128 x) *ℤ to_z w128 (of_z w128 y))
product_fits x y hx hy small = let fits = product_in x y small in rw (back {z = x} hx, back {z = y} hy) fits

-- as the code makes it
pub product_is : (x y : ℤ) → mag x < 2 ^ 127 → mag y < 2 ^ 127 → unsigned_abs x * unsigned_abs y < 10 ^ 33 →
    to_z w128 (of_z w128 (to_z w128 (of_z w128 x) *ℤ to_z w128 (of_z w128 y))) ≡ x *ℤ y
product_is x y hx hy small = let fits = product_in x y small in rw (back {z = x} hx, back {z = y} hy) (to_z-of_z fits)
