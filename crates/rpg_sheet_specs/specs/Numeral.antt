-- The value of a numeric literal.
use Rattle.std.specs.Prelude.{ℕ, ◌^◌, ◌<◌, ◌≤◌, ℤ, unsigned_abs}

-- a number on a card, with its digits
pub record Numeral : Type 0 where
  -- the number without its point
  pub value : ℤ
  -- how many digits it is written with
  pub length : ℕ
  -- how many of them follow the point
  pub decimals : ℕ

-- a factor's ten columns have room for it, and its digits for the value
pub record IsNumeral (value : ℤ) (length decimals : ℕ) : Type 0 where
  pub has_digits : 1 ≤ length
  pub has_columns : length ≤ 10
  pub after_point : decimals ≤ length
  pub has_point : decimals ≤ 9
  pub fits : unsigned_abs value < 10 ^ length
