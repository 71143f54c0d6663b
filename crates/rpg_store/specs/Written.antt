-- Texts that were written for numbers.
use Rattle.std.specs.Prelude.{◌≡◌, ℕ, ◌||◌, IsTrue, List, length}
use Rattle.rpg_decimal_words.specs.Zoned.{is_digit, is_minus, spelled_number, zoned_text}

-- the text is the one that is written for its number
abbrev pub IsWritten : List ℕ → Type 0
IsWritten text = text ≡ zoned_text (length text) (spelled_number text)

-- 0 to 9
abbrev pub IsDigit : ℕ → Type 0
IsDigit c = IsTrue (is_digit c)

-- a character that is written in the last place
abbrev pub IsLastWritten : ℕ → Type 0
IsLastWritten c = IsTrue (is_digit c || is_minus c)
