-- Edit codes.
use Rattle.std.specs.Prelude.{find, option_map, ℕ, zero, suc, codes, nat_eq, ◌+◌, ◌-◌, ◌%◌, max, Bool, true, false, not, ◌&&◌, List, [], ◌∷◌, ◌++◌, replicate, ℤ, Option, None, Some, if◌then◌else◌, nat_lt, ◌==◌, unsigned_abs}
use Rattle.std.specs.Cmp.Lexicographic.{pointwise}
use Rattle.rpg_edit_marks.specs.declared.mark.Mark.{Mark}
use Rattle.rpg_edit_marks.specs.declared.mark.Mark.TheVariants.{Digit, Insert, Sign}
use Rattle.rpg_edit_marks.specs.declared.code.Ending.{Ending}
use Rattle.rpg_edit_marks.specs.declared.code.Ending.TheVariants.{Unsigned, Credit, Minus}
use Rattle.rpg_edit_marks.specs.declared.code.Fill.{Fill}
use Rattle.rpg_edit_marks.specs.declared.code.Fill.TheVariants.{Blank, Star, Dollar}
use Rattle.rpg_edit_marks.specs.declared.code.EditCode.{EditCode}
use Rattle.rpg_edit_marks.specs.declared.code.EditCode.TheVariants.{Combination, X, Y, Z}
use Rattle.rpg_edit_marks.specs.Edited.{marked_text, with_dollar}

-- a comma before a full group of three, if a digit comes before it
abbrev pub comma_marks : Bool → ℕ → List Mark
comma_marks commas left = if commas && nat_lt 0 left && (left % 3 == 0) then Insert 44 ∷ [] else []

-- the whole digits, with their commas if commas are on
abbrev pub whole_marks : Bool → ℕ → List Mark
whole_marks commas zero = []
whole_marks commas (suc left) = (Digit ∷ comma_marks commas left) ++ whole_marks commas left

-- a point and the decimals, if there are any
abbrev pub decimal_marks : ℕ → List Mark
decimal_marks zero = []
decimal_marks (suc d) = Insert 46 ∷ replicate (suc d) Digit

-- the marks after a number, by how the code shows its sign
abbrev pub ending_marks : Ending → List Mark
ending_marks Unsigned = []
ending_marks Credit = Sign 67 ∷ Sign 82 ∷ []
ending_marks Minus = Sign 45 ∷ []

-- a floating dollar sign has an extra place
abbrev pub dollar_marks : Fill → List Mark
dollar_marks Blank = []
dollar_marks Star = []
dollar_marks Dollar = Digit ∷ []

-- two, two and two digits between slashes
abbrev pub date_marks : List Mark
date_marks = Digit ∷ Digit ∷ Insert 47 ∷ Digit ∷ Digit ∷ Insert 47 ∷ Digit ∷ Digit ∷ []

-- the marks of a code, for a number of that length and decimals
abbrev pub code_marks : EditCode → Fill → ℕ → ℕ → List Mark
code_marks (Combination commas zeros ending) fill len dec = dollar_marks fill ++ whole_marks commas (len - dec) ++ decimal_marks dec ++ ending_marks ending
code_marks X fill len dec = replicate len Digit
code_marks Y fill len dec = date_marks
code_marks Z fill len dec = replicate len Digit

-- how many of the last digits always show: the decimals, or the last digit if there are none, and none in a blank zero
abbrev pub kept_digits : EditCode → ℕ → ℕ → ℕ → ℕ
kept_digits (Combination commas zeros ending) len dec size = if (size == 0) && not zeros then 0 else max dec 1
kept_digits X len dec size = len
kept_digits Y len dec size = 5
kept_digits Z len dec size = 0

-- what replaces suppressed digits
abbrev pub fill_of : Fill → ℕ
fill_of Blank = 32
fill_of Star = 42
fill_of Dollar = 32

-- the text with its dollar sign, if the fill has one
abbrev pub dollar_in : Fill → List ℕ → List ℕ
dollar_in Blank text = text
dollar_in Star text = text
dollar_in Dollar text = with_dollar text

-- the text of n by a code
abbrev pub coded : ℤ → ℕ → ℕ → EditCode → Fill → List ℕ
coded n len dec code fill = dollar_in fill (marked_text n (kept_digits code len dec (unsigned_abs n)) (fill_of fill) (code_marks code fill len dec))

-- blanks fill
abbrev pub is_blank_fill : Fill → Bool
is_blank_fill Blank = true
is_blank_fill f = false

-- X, Y and Z take no fill
abbrev pub takes_fill : EditCode → Fill → Bool
takes_fill (Combination commas zeros ending) fill = true
takes_fill X fill = is_blank_fill fill
takes_fill Y fill = is_blank_fill fill
takes_fill Z fill = is_blank_fill fill

-- Y edits six digits without decimals, and X, Y and Z allow no fill
abbrev pub fits_code : ℕ → ℕ → EditCode → Fill → Bool
fits_code len dec (Combination commas zeros ending) fill = true
fits_code len dec X fill = is_blank_fill fill
fits_code len dec Y fill = (len == 6) && ((dec == 0) && is_blank_fill fill)
fits_code len dec Z fill = is_blank_fill fill

-- the fill of a constant beside a code: an asterisk, or a dollar sign
abbrev pub fill_by : List ℕ → Option Fill
fill_by text = if pointwise nat_eq text (codes "*") then Some Star else (if pointwise nat_eq text (codes "$") then Some Dollar else None)

-- the edit code of each character that is one
abbrev pub table_of_codes : List (ℕ × EditCode)
table_of_codes =
    (49, Combination true true Unsigned) ∷ (50, Combination true false Unsigned) ∷ (51, Combination false true Unsigned) ∷ (52, Combination false false Unsigned)
    ∷ (65, Combination true true Credit) ∷ (66, Combination true false Credit) ∷ (67, Combination false true Credit) ∷ (68, Combination false false Credit)
    ∷ (74, Combination true true Minus) ∷ (75, Combination true false Minus) ∷ (76, Combination false true Minus) ∷ (77, Combination false false Minus)
    ∷ (88, X) ∷ (89, Y) ∷ (90, Z) ∷ []

-- the code of a character
abbrev pub code_of : ℕ → Option EditCode
code_of c = option_map (λ row. row.1) (find (λ row. row.0 == c) table_of_codes)

-- the character of the first code with an ending: 1 to 4, A to D, J to M
abbrev pub first_character : Ending → ℕ
first_character Unsigned = 49
first_character Credit = 65
first_character Minus = 74

-- the character of a code
abbrev pub code_character : EditCode → ℕ
code_character (Combination commas zeros ending) = first_character ending + (if commas then 0 else 2) + (if zeros then 0 else 1)
code_character X = 88
code_character Y = 89
code_character Z = 90
