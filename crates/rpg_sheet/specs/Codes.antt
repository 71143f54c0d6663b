-- The number and the text of a code.
use Rattle.std.specs.Prelude.{ℕ, List, codes}
use Rattle.rpg_sheet.specs.declared.sheet.SheetCode.{SheetCode}
use Rattle.rpg_sheet.specs.declared.sheet.SheetCode.TheVariants.{S1, S2, S3, S4, S5, S6}

-- the number in a code
abbrev pub sheet_code_number : SheetCode → ℕ
sheet_code_number S1 = 1
sheet_code_number S2 = 2
sheet_code_number S3 = 3
sheet_code_number S4 = 4
sheet_code_number S5 = 5
sheet_code_number S6 = 6

-- a code as it is printed
abbrev pub sheet_code_text : SheetCode → List ℕ
sheet_code_text S1 = codes "S1"
sheet_code_text S2 = codes "S2"
sheet_code_text S3 = codes "S3"
sheet_code_text S4 = codes "S4"
sheet_code_text S5 = codes "S5"
sheet_code_text S6 = codes "S6"
