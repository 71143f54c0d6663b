-- Texts of numbers: a digit in each place, and the sign over the last one.
use Rattle.std.specs.Prelude.{◌≡◌, ℕ, ◌+◌, ◌-◌, ◌/◌, ◌%◌, ◌<◌, ℤ, unsigned_abs, [], ◌∷◌, ◌++◌, Bool, true, ◌&&◌, ◌||◌, if◌then◌else◌, ◌==◌, nat_le, IsTrue, List, length, map, slice_index, Option, Some, None}
use Rattle.std.specs.Int.{is_negative}
use Rattle.rpg_decimal_words.specs.Place.{lowest_digits, signed_number}

-- 0 to 9
abbrev pub is_digit : ℕ → Bool
is_digit c = nat_le 48 c && nat_le c 57

-- one of nine letters, by the first of them
abbrev pub is_letter_from : ℕ → ℕ → Bool
is_letter_from first c = nat_le first c && nat_le c (first + 8)

-- { for 0, A to I for 1 to 9
abbrev pub is_plus : ℕ → Bool
is_plus c = c == 123 || is_letter_from 65 c

-- } for 0, J to R for 1 to 9
abbrev pub is_minus : ℕ → Bool
is_minus c = c == 125 || is_letter_from 74 c

-- the digit that a character means; a blank, { and } mean 0
abbrev pub digit_of : ℕ → ℕ
digit_of c = if is_digit c then c - 48 else (if is_letter_from 65 c then c - 64 else (if is_letter_from 74 c then c - 73 else 0))

-- digits and blanks may be in any place, letters with a sign only in the last one
abbrev pub may_stand : Bool → ℕ → Bool
may_stand last c = c == 32 || is_digit c || (last && (is_plus c || is_minus c))

-- the character is allowed at its place in a number
abbrev pub IsValidAt : List ℕ → ℕ → Type 0
IsValidAt text i = IsTrue (may_stand (i + 1 == length text) (slice_index text i))

-- the last character
abbrev pub last_of : List ℕ → ℕ
last_of text = slice_index text (length text - 1)

-- the number of the digits, under the sign of the last place
abbrev pub spelled_number : List ℕ → ℤ
spelled_number text = signed_number (is_minus (last_of text)) (map digit_of text)

-- each place is valid, from left to right
abbrev pub is_numeric : List ℕ → Bool
is_numeric [] = true
is_numeric (c ∷ cs) = may_stand (length cs == 0) c && is_numeric cs

-- the text spells n
pub record Spells (text : List ℕ) (n : ℤ) : Type 0 where
  pub valid : IsTrue (is_numeric text)
  pub value : n ≡ spelled_number text

-- the number that the text spells, if it spells one
abbrev pub number_in : List ℕ → Option ℤ
number_in text = if is_numeric text then Some (spelled_number text) else None

-- the first place of the text that no number has
pub record IsFirstBad (text : List ℕ) (spot : ℕ) : Type 0 where
  pub inside : spot < length text
  pub bad : ¬ IsValidAt text spot
  pub valid_before : (i : ℕ) → i < spot → IsValidAt text i

-- the digit d under a minus sign
abbrev pub minus_letter : ℕ → ℕ
minus_letter d = if d == 0 then 125 else 73 + d

-- the last character that is written for n
abbrev pub last_character : ℤ → ℕ
last_character n = if is_negative n then minus_letter (unsigned_abs n % 10) else 48 + unsigned_abs n % 10

-- the text of k characters that is written for n: digits, and a letter in the last place if n is below 0
abbrev pub zoned_text : ℕ → ℤ → List ℕ
zoned_text k n = map (λ d. 48 + d) (lowest_digits (k - 1) (unsigned_abs n / 10)) ++ last_character n ∷ []
