-- The definitions, place by place.
use Rattle.std.specs.Prelude.{◌≡◌, ◌≢◌, ℕ, ◌+◌, ◌-◌, ◌/◌, ◌%◌, ◌^◌, ◌<◌, ℤ, pos, neg_ℤ, unsigned_abs, List, length, slice_index, nat_lt, if◌then◌else◌, IsTrue, EachIndex}
use Rattle.std.specs.Int.{is_negative}
use Rattle.rpg_decimal_words.specs.Zoned.{digit_of, is_digit, is_minus, last_of, IsValidAt, Spells}

-- the place of a list, counted from the right
abbrev pub from_right : List ℕ → ℕ → ℕ
from_right xs i = slice_index xs (length xs - 1 - i)

-- the digit of n at a place, counted from the right
abbrev pub digit_at : ℤ → ℕ → ℕ
digit_at n i = unsigned_abs n / 10 ^ i % 10

-- counted from the right, a place that the source has is the source's, otherwise the old one
pub record MovesFromRight (source old moved : List ℕ) : Type 0 where
  pub long : length moved ≡ length old
  pub places : (i : ℕ) → i < length old → from_right moved i ≡ (if nat_lt i (length source) then from_right source i else from_right old i)

-- the same, counted from the left
pub record MovesFromLeft (source old moved : List ℕ) : Type 0 where
  pub long : length moved ≡ length old
  pub places : (i : ℕ) → i < length old → slice_index moved i ≡ (if nat_lt i (length source) then slice_index source i else slice_index old i)

-- the digits of a number of k digits over those of one of `len` digits, counted from the right; the sign is the source's
pub record MovesDigitsFromRight (k : ℕ) (n : ℤ) (len : ℕ) (old moved : ℤ) : Type 0 where
  pub fits : unsigned_abs moved < 10 ^ len
  pub digits : (i : ℕ) → i < len → digit_at moved i ≡ (if nat_lt i k then digit_at n i else digit_at old i)
  pub sign : moved ≢ pos 0 → is_negative moved ≡ is_negative n

-- counted from the left; the sign is the source's if it reaches the last place, otherwise the old one
pub record MovesDigitsFromLeft (k : ℕ) (n : ℤ) (len : ℕ) (old moved : ℤ) : Type 0 where
  pub fits : unsigned_abs moved < 10 ^ len
  pub digits : (i : ℕ) → i < len → digit_at moved (len - 1 - i) ≡ (if nat_lt i k then digit_at n (k - 1 - i) else digit_at old (len - 1 - i))
  pub sign : moved ≢ pos 0 → is_negative moved ≡ (if nat_lt k len then is_negative old else is_negative n)

-- each character is valid and has the digit of n at its place, and the last one has its sign
pub record SpellsByPlaces (text : List ℕ) (n : ℤ) : Type 0 where
  pub valid : EachIndex text (IsValidAt text)
  pub fits : unsigned_abs n < 10 ^ length text
  pub digits : (i : ℕ) → i < length text → digit_of (from_right text i) ≡ digit_at n i
  pub sign : n ≡ (if is_minus (last_of text) then neg_ℤ (pos (unsigned_abs n)) else pos (unsigned_abs n))

-- the text spells n with plain digits, but for a letter in the last place if n is below 0
pub record SpellsPlainly (text : List ℕ) (n : ℤ) : Type 0 where
  pub spells : Spells text n
  pub front : (i : ℕ) → i + 1 < length text → IsTrue (is_digit (slice_index text i))
  pub last : IsTrue (if is_negative n then is_minus (last_of text) else is_digit (last_of text))
