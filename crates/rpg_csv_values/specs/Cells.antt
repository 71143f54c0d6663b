-- The columns that a cell fills.
use Rattle.std.specs.Prelude.{ℕ, ◌-◌, ◌==◌, ◌||◌, nat_lt, ℤ, if◌then◌else◌, List, [], ◌++◌, length, replicate, Result, Ok, Err}
use Rattle.rpg_text.specs.Texts.{trimmed}
use Rattle.rpg_decimal_words.specs.Zoned.{zoned_text}
use Rattle.rpg_csv_values.specs.Numbers.{cell_number, without_blanks}
use Rattle.rpg_csv_values.specs.declared.cell.CellFault.{CellFault}
use Rattle.rpg_csv_values.specs.declared.cell.CellFault.TheVariants as faults
use Rattle.rpg_csv_values.specs.declared.cell.CellKind.{CellKind}
use Rattle.rpg_csv_values.specs.declared.cell.CellKind.TheVariants as kinds
use Rattle.rpg_csv_values.specs.declared.number.NumberFormat.{NumberFormat}

-- a text, and blanks after it
abbrev pub padded : ℕ → List ℕ → List ℕ
padded width text = text ++ replicate (width - length text) 32

-- the digits of a number, with the sign over the last one
abbrev pub zoned_columns : ℕ → Result ℤ CellFault → Result (List ℕ) CellFault
zoned_columns width (Ok n) = Ok (zoned_text width n)
zoned_columns width (Err fault) = Err fault

-- of a field with at least one digit and at most 15, and no more decimals
abbrev pub number_columns : NumberFormat → ℕ → ℕ → List ℕ → Result (List ℕ) CellFault
number_columns f decimals width text =
    if width == 0 || nat_lt 15 width || nat_lt width decimals then Err (faults.Digits 0) else zoned_columns width (cell_number f decimals width text)

-- what a cell is in a line: characters from the left, or a number; a blank number is blanks, but not where blanks aren't digits
abbrev pub cell_columns : NumberFormat → CellKind → ℕ → List ℕ → Result (List ℕ) CellFault
cell_columns f kinds.Code width cell = if nat_lt 1 (length cell) then Err faults.LongCode else Ok (padded width cell)
cell_columns f kinds.Text width cell = if nat_lt width (length (trimmed cell)) then Err (faults.LongText (length (trimmed cell)) width) else Ok (padded width (trimmed cell))
cell_columns f (kinds.Number decimals) width cell = if length (without_blanks cell) == 0 then Ok (padded width []) else number_columns f decimals width (without_blanks cell)
cell_columns f (kinds.Digits decimals) width cell = if length (without_blanks cell) == 0 then Err faults.Empty else number_columns f decimals width (without_blanks cell)
