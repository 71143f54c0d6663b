-- The number and the text of a code.
use Rattle.std.specs.Prelude.{ℕ, List, codes}
use Rattle.rpg_faults.specs.declared.code.FaultCode.{FaultCode}
use Rattle.rpg_faults.specs.declared.code.FaultCode.TheVariants.{F1, F2, F3, F4, F5, F6, F7, F8, F9, F10, F11, F12, F13, F14, F15, F16, F17, F18}

-- the number in a code
abbrev pub fault_number : FaultCode → ℕ
fault_number F1 = 1
fault_number F2 = 2
fault_number F3 = 3
fault_number F4 = 4
fault_number F5 = 5
fault_number F6 = 6
fault_number F7 = 7
fault_number F8 = 8
fault_number F9 = 9
fault_number F10 = 10
fault_number F11 = 11
fault_number F12 = 12
fault_number F13 = 13
fault_number F14 = 14
fault_number F15 = 15
fault_number F16 = 16
fault_number F17 = 17
fault_number F18 = 18

-- a code as it is printed
abbrev pub fault_code_text : FaultCode → List ℕ
fault_code_text F1 = codes "F1"
fault_code_text F2 = codes "F2"
fault_code_text F3 = codes "F3"
fault_code_text F4 = codes "F4"
fault_code_text F5 = codes "F5"
fault_code_text F6 = codes "F6"
fault_code_text F7 = codes "F7"
fault_code_text F8 = codes "F8"
fault_code_text F9 = codes "F9"
fault_code_text F10 = codes "F10"
fault_code_text F11 = codes "F11"
fault_code_text F12 = codes "F12"
fault_code_text F13 = codes "F13"
fault_code_text F14 = codes "F14"
fault_code_text F15 = codes "F15"
fault_code_text F16 = codes "F16"
fault_code_text F17 = codes "F17"
fault_code_text F18 = codes "F18"
