-- Numbers in the columns of a line, and their digits in a cell.
use Rattle.std.specs.Prelude.{◌≡◌, ◌⊎◌, ℕ, ◌-◌, ◌^◌, ◌<◌, ◌≤◌, ◌==◌, ◌&&◌, ◌||◌, nat_lt, Bool, true, false, ℤ, pos, unsigned_abs, if◌then◌else◌, List, [], ◌∷◌, ◌++◌, drop, length, min, take, Option, None, Some, option_map, Ok}
use Rattle.std.specs.Int.{is_negative}
use Rattle.std.specs.List.{list_any}
use Rattle.rpg_text.specs.Texts.{all_blank, is_blank, trimmed}
use Rattle.rpg_decimal_words.specs.Zoned.{number_in, zoned_text}
use Rattle.rpg_csv_values.specs.Cells.{cell_columns}
use Rattle.rpg_csv_values.specs.declared.cell.CellKind.{CellKind}
use Rattle.rpg_csv_values.specs.declared.cell.CellKind.TheVariants as kinds
use Rattle.rpg_csv_values.specs.declared.number.NumberFormat.{NumberFormat}

-- without the zeros before the last digit
abbrev pub without_leading_zeros : List ℕ → List ℕ
without_leading_zeros [] = []
without_leading_zeros (c ∷ cs) = if c == 48 && nat_lt 0 (length cs) then without_leading_zeros cs else c ∷ cs

-- fifteen digits with a point before the decimals
abbrev pub pointed : ℕ → ℕ → List ℕ → List ℕ
pointed decimals point digits =
    let whole = without_leading_zeros (take (15 - min decimals 14) digits) in if decimals == 0 then whole else whole ++ point ∷ drop (15 - min decimals 14) digits

-- a minus before a number below zero
abbrev pub minus_of : ℤ → List ℕ
minus_of n = if is_negative n then 45 ∷ [] else []

-- the number of one to fifteen columns, in which a blank is a zero
abbrev pub columns_number : List ℕ → Option ℤ
columns_number columns = if length columns == 0 || nat_lt 15 (length columns) then None else number_in columns

-- a number with all its decimals
abbrev pub number_content : ℕ → ℕ → ℤ → List ℕ
number_content decimals point n = minus_of n ++ pointed decimals point (zoned_text 15 (pos (unsigned_abs n)))

-- the content of the cell that columns have, if they have one: a text without the blanks at its end, or a number, which may be blank where blanks are digits
abbrev pub column_content : CellKind → ℕ → List ℕ → Option (List ℕ)
column_content kinds.Code point columns = Some (trimmed columns)
column_content kinds.Text point columns = Some (trimmed columns)
column_content (kinds.Number decimals) point columns = if all_blank columns then Some [] else option_map (number_content decimals point) (columns_number columns)
column_content (kinds.Digits decimals) point columns = if list_any is_blank columns then None else option_map (number_content decimals point) (columns_number columns)

-- a content was appended, if there is one
abbrev pub HasMade : List ℕ → List ℕ → Option (List ℕ) → Bool → Type 0
HasMade old new None is_made = is_made ≡ false
HasMade old new (Some content) is_made = (is_made ≡ true) × (new ≡ old ++ content)

-- ---- contents that are read back

-- the digits of a number with at most 14 decimals, as they are written
pub record AreDigits (decimals width : ℕ) (columns : List ℕ) : Type 0 where
  pub number : ℤ
  pub written : columns ≡ zoned_text width number
  pub fits : unsigned_abs number < 10 ^ width
  pub low : 1 ≤ width
  pub high : width ≤ 15
  pub few : decimals ≤ width
  pub some_whole : decimals ≤ 14

-- columns as a cell fills them
abbrev pub IsReadable : CellKind → ℕ → List ℕ → Type 0
IsReadable kinds.Code width columns = (length columns ≡ width) × (length (trimmed columns) ≤ 1)
IsReadable kinds.Text width columns = length columns ≡ width
IsReadable (kinds.Number decimals) width columns = ((length columns ≡ width) × (all_blank columns ≡ true)) ⊎ AreDigits decimals width columns
IsReadable (kinds.Digits decimals) width columns = AreDigits decimals width columns

-- The content of such columns fills them again, with a point or a comma before the decimals and no separator of groups.
abbrev pub ContentsAreReadBack : Type 0
ContentsAreReadBack =
    (f : NumberFormat) → f.group ≡ None → (f.decimal == 46 || f.decimal == 44) ≡ true → (kind : CellKind) (width : ℕ) (columns : List ℕ) → IsReadable kind width columns
    → (content : List ℕ) × (column_content kind f.decimal columns ≡ Some content) × (cell_columns f kind width content ≡ Ok columns)
