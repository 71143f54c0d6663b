-- How a number is edited; an edit word is its characters.
use Rattle.std.specs.Prelude.{◌≡◌, ℕ, List, length, ℤ, true, unsigned_abs}
use Rattle.rpg_edit_marks.specs.declared.how.How.{How}
use Rattle.rpg_edit_marks.specs.declared.how.How.TheVariants.{Plain, Code, Word}
use Rattle.rpg_edit_marks.specs.Edited.{IsTextOf}
use Rattle.rpg_decimal_words.specs.Zoned.{zoned_text}
use Rattle.rpg_edit_marks.specs.Code.{code_marks, coded, kept_digits, fill_of, dollar_in, fits_code}
use Rattle.rpg_edit_marks.specs.Word.{word_marks, worded, digits_after_stop, word_fill, IsWordFor}

-- the characters that a number of `len` digits with `dec` decimals takes
abbrev pub width_of : ℕ → ℕ → How (List ℕ) → ℕ
width_of len dec Plain = len
width_of len dec (Code code fill) = length (code_marks code fill len dec)
width_of len dec (Word word) = length (word_marks word)

-- the text of n, a number of `len` digits with `dec` decimals
abbrev pub edited : ℤ → ℕ → ℕ → How (List ℕ) → List ℕ
edited n len dec Plain = zoned_text len n
edited n len dec (Code code fill) = coded n len dec code fill
edited n len dec (Word word) = worded n word

-- the text is that of n, place by place
abbrev pub IsEdited : ℤ → ℕ → ℕ → How (List ℕ) → List ℕ → Type 0
IsEdited n len dec Plain text = text ≡ zoned_text len n
IsEdited n len dec (Code code fill) text = (digits : List ℕ) × IsTextOf n (kept_digits code len dec (unsigned_abs n)) (fill_of fill) (code_marks code fill len dec) digits × (text ≡ dollar_in fill digits)
IsEdited n len dec (Word word) text = IsTextOf n (digits_after_stop word) (word_fill word) (word_marks word) text

-- what a number of `len` digits with `dec` decimals may be edited by
abbrev pub IsFit : ℕ → ℕ → How (List ℕ) → Type 0
IsFit len dec Plain = Unit {0}
IsFit len dec (Code code fill) = fits_code len dec code fill ≡ true
IsFit len dec (Word word) = IsWordFor len word
