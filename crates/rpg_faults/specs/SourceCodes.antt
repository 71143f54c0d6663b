-- The text of a code.
use Rattle.std.specs.Prelude.{ℕ, List}
use Rattle.rpg_faults.specs.declared.source_fault.SourceCode.{SourceCode}
use Rattle.rpg_faults.specs.declared.source_fault.SourceCode.TheVariants.{Sheet, Fault}
use Rattle.rpg_faults.specs.Codes as faults
use Rattle.rpg_sheet.specs.Codes as sheets

-- a code as it is printed
abbrev pub source_code_text : SourceCode → List ℕ
source_code_text (Sheet code) = sheets.sheet_code_text code
source_code_text (Fault code) = faults.fault_code_text code
