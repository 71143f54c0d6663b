-- Exact values: fractions, which may be written in many ways.
use Rattle.std.specs.Prelude.{◌≡◌, ℕ, ◌+◌, ◌*◌, ◌^◌, max, ℤ, pos, ◌+ℤ◌, ◌-ℤ◌, ◌*ℤ◌, unsigned_abs, Bool, false}
use Rattle.std.specs.declared.cmp.Ordering.{Ordering}
use Rattle.std.specs.Ordering.{int_cmp}
use Rattle.std.specs.Int.{int_signum}
use Rattle.rpg_decimal_words.specs.Whole.{rounded_quotient, fit}

-- top / bottom, if bottom is above 0
pub record Fraction : Type 0 where
  pub top : ℤ
  pub bottom : ℕ

-- n with this many digits after its decimal point
abbrev pub with_decimals : ℤ → ℕ → Fraction
with_decimals n dec = record { top = n; bottom = 10 ^ dec }

-- the sum of two fractions
abbrev pub plus : Fraction → Fraction → Fraction
plus p q = record { top = p.top *ℤ pos q.bottom +ℤ q.top *ℤ pos p.bottom; bottom = p.bottom * q.bottom }

-- the difference of two fractions
abbrev pub minus : Fraction → Fraction → Fraction
minus p q = record { top = p.top *ℤ pos q.bottom -ℤ q.top *ℤ pos p.bottom; bottom = p.bottom * q.bottom }

-- the product of two fractions
abbrev pub times : Fraction → Fraction → Fraction
times p q = record { top = p.top *ℤ q.top; bottom = p.bottom * q.bottom }

-- p / q, if q is not 0: its sign goes to the top
abbrev pub over : Fraction → Fraction → Fraction
over p q = record { top = p.top *ℤ pos q.bottom *ℤ int_signum q.top; bottom = p.bottom * unsigned_abs q.top }

-- the order of two fractions by their values
abbrev pub fraction_cmp : Fraction → Fraction → Ordering
fraction_cmp p q = int_cmp (p.top *ℤ pos q.bottom) (q.top *ℤ pos p.bottom)

-- the whole number that represents p with `dec` digits after its point
abbrev pub aligned_number : Bool → ℕ → Fraction → ℤ
aligned_number half dec p = rounded_quotient half (p.top *ℤ pos (10 ^ dec)) p.bottom

-- the same as `len` digits keep it: without the digits too many on the left
abbrev pub stored_number : Bool → ℕ → ℕ → Fraction → ℤ
stored_number half dec len p = fit (aligned_number half dec p) len

-- the two have one value
abbrev pub IsSameValue : Fraction → Fraction → Type 0
IsSameValue p q = p.top *ℤ pos q.bottom ≡ q.top *ℤ pos p.bottom

-- p / q cut to `dec` decimals, all digits on the left kept
abbrev pub quotient_of : Fraction → Fraction → ℕ → Fraction
quotient_of p q dec = with_decimals (aligned_number false dec (over p q)) dec

-- what p leaves when q is taken from it that often
abbrev pub rest_of : Fraction → Fraction → ℕ → Fraction
rest_of p q dec = minus p (times q (quotient_of p q dec))

-- the decimals of that rest: those of p, or those of q and of the quotient together
abbrev pub rest_decimals : ℕ → ℕ → ℕ → ℕ
rest_decimals p_dec q_dec dec = max p_dec (q_dec + dec)
