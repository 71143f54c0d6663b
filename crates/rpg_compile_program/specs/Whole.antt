-- The code of all sections of a program.
use Rattle.std.specs.Prelude.{◌≡◌, ℕ, ◌+◌, List, Option}
use Rattle.rpg_cards.specs.Keys.{Key, Name}
use Rattle.rpg_cards.specs.Sections.{Sections, callee}
use Rattle.rpg_compile_program.specs.Code.{calculations_code, sizes, subroutines_code}
use Rattle.rpg_program.specs.declared.operation.Instruction.{Instruction}
use Rattle.rpg_program.specs.Object.{Object, SubroutineRow}

-- the number of the subroutine that is called
abbrev pub called_number : Sections Key → Option Name → ℕ
called_number s name = callee name s.subroutines

-- the instructions of detail calculations
abbrev pub detail_code : (Key → ℕ) → Sections Key → List (Instruction ℕ)
detail_code number s = calculations_code number (called_number s) 0 0 s.detail

-- the instructions of total calculations, which follow those of detail calculations
abbrev pub total_code : (Key → ℕ) → Sections Key → List (Instruction ℕ)
total_code number s = calculations_code number (called_number s) 0 (sizes s.detail) s.total

-- the subroutines with their levels and instructions, which follow those of total calculations
abbrev pub subroutine_rows : (Key → ℕ) → (ℕ → ℕ) → Sections Key → List SubroutineRow
subroutine_rows number level s = subroutines_code number (called_number s) level 0 (sizes s.detail + sizes s.total) s.subroutines

-- the program has the sections' code
pub record IsCodeOf (number : Key → ℕ) (level : ℕ → ℕ) (s : Sections Key) (p : Object) : Type 0 where
  pub detail : p.detail ≡ detail_code number s
  pub total : p.total ≡ total_code number s
  pub subroutines : p.subroutines ≡ subroutine_rows number level s
