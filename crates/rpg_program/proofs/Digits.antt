-- Digits and numbers.
use Rattle.std.proofs.Common.{◌≡◌, ℕ, ◌<◌, ◌≤◌, ◌^◌, Bool, true, false, refl, arith}
use Rattle.std.specs.Prelude.{nat_lt}
use Rattle.std.proofs.Math.Nat.{pow-le-pow_right}
use borrow.Author.Tests.{ltb-false}

-- five digits hold any number of two bytes
pub five_digits : (n len : ℕ) → n < 2 ^ 16 → 5 ≤ len → nat_lt n (10 ^ len) ≡ true
five_digits n len h l = by_test (nat_lt n (10 ^ len)) refl
  where
    more : 10 ^ 5 ≤ 10 ^ len
    more = pow-le-pow_right {n = 10} (omega arith) l

    by_test : (b : Bool) → nat_lt n (10 ^ len) ≡ b → b ≡ true
    by_test true t = refl
    by_test false t = let m = more in absurd (omega (arith, ltb-false, m))
