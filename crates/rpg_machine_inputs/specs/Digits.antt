-- Numbers of plain digits.
use Rattle.std.specs.Prelude.{◌≡◌, ℕ, Bool, ◌==◌, ◌||◌, ◌+◌, ◌*◌, ◌<◌, ◌≤◌, List, length, map, slice_index, take, true}
use Rattle.rpg_decimal_words.specs.Place.{place_value}
use Rattle.rpg_decimal_words.specs.Zoned.{digit_of, is_digit, is_minus}

-- four digits, and their number
pub record AreFour (a b c d n : ℕ) : Type 0 where
  pub first : is_digit a ≡ true
  pub second : is_digit b ≡ true
  pub third : is_digit c ≡ true
  pub fourth : is_digit d ≡ true
  pub value : n ≡ ((digit_of a * 10 + digit_of b) * 10 + digit_of c) * 10 + digit_of d

-- a digit or a blank
abbrev pub is_plain : ℕ → Bool
is_plain c = c == 32 || is_digit c

-- the characters before a place of a text are digits and blanks, with that number
pub record ArePlainTo (text : List ℕ) (spot n : ℕ) : Type 0 where
  pub within : spot ≤ length text
  pub each : (k : ℕ) → k < spot → is_plain (slice_index text k) ≡ true
  pub value : n ≡ place_value (map digit_of (take spot text))

-- a character with a minus sign over that digit
pub record IsMinusDigit (c d : ℕ) : Type 0 where
  pub minus : is_minus c ≡ true
  pub digit : digit_of c ≡ d
