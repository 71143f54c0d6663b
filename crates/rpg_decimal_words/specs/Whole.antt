-- Whole numbers and their decimal digits.
use Rattle.std.specs.Prelude.{ℕ, ◌+◌, ◌*◌, ◌/◌, ◌^◌, ℤ, pos, negsuc, neg_ℤ, unsigned_abs, int_div, int_rem, Bool, if◌then◌else◌}

-- a magnitude under the sign of a number
abbrev pub with_sign_of : ℤ → ℕ → ℤ
with_sign_of (pos _) size = pos size
with_sign_of (negsuc _) size = neg_ℤ (pos size)

-- u / v toward zero
abbrev pub cut_quotient : ℤ → ℕ → ℤ
cut_quotient u v = int_div u (pos v)

-- u / v to the nearest whole number, a half away from zero
abbrev pub half_adjusted_quotient : ℤ → ℕ → ℤ
half_adjusted_quotient u v = with_sign_of u ((2 * unsigned_abs u + v) / (2 * v))

-- u / v as a whole number
abbrev pub rounded_quotient : Bool → ℤ → ℕ → ℤ
rounded_quotient half u v = if half then half_adjusted_quotient u v else cut_quotient u v

-- n without the digits above the lowest k, its sign kept
abbrev pub fit : ℤ → ℕ → ℤ
fit n k = int_rem n (pos (10 ^ k))
