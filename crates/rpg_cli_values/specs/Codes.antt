-- The texts of codes; which codes a set has, and the set with one more.
use Rattle.std.specs.Prelude.{ℕ, List, Bool, true, false, codes, slice_index_or, slice_set}
use Rattle.rpg_cli_values.specs.declared.code.WarningCode.{WarningCode}
use Rattle.rpg_cli_values.specs.declared.code.WarningCode.TheVariants.{W1, W2, W3, W4, W5, W6, W7, W8, W9, W10, W11, W12, W13, W14, W15}
use Rattle.rpg_cli_values.specs.declared.codes.WarningCodes.{WarningCodes}

-- a code as it is printed
abbrev pub warning_code_text : WarningCode → List ℕ
warning_code_text W1 = codes "W1"
warning_code_text W2 = codes "W2"
warning_code_text W3 = codes "W3"
warning_code_text W4 = codes "W4"
warning_code_text W5 = codes "W5"
warning_code_text W6 = codes "W6"
warning_code_text W7 = codes "W7"
warning_code_text W8 = codes "W8"
warning_code_text W9 = codes "W9"
warning_code_text W10 = codes "W10"
warning_code_text W11 = codes "W11"
warning_code_text W12 = codes "W12"
warning_code_text W13 = codes "W13"
warning_code_text W14 = codes "W14"
warning_code_text W15 = codes "W15"

-- the number of a code, counted from 0
abbrev pub code_number : WarningCode → ℕ
code_number W1 = 0
code_number W2 = 1
code_number W3 = 2
code_number W4 = 3
code_number W5 = 4
code_number W6 = 5
code_number W7 = 6
code_number W8 = 7
code_number W9 = 8
code_number W10 = 9
code_number W11 = 10
code_number W12 = 11
code_number W13 = 12
code_number W14 = 13
code_number W15 = 14

-- the code is in the set
abbrev pub has : WarningCodes → WarningCode → Bool
has s code = slice_index_or s.marks (code_number code) false

-- the set with one more code
abbrev pub with : WarningCodes → WarningCode → WarningCodes
with s code = record { marks = slice_set s.marks (code_number code) true }
