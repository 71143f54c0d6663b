-- The code of calculations, with a section's numbers for fields, labels and subroutines.
use Rattle.std.specs.Prelude.{ℕ, List}
use Rattle.rpg_cards.specs.Calculations.{calculations}
use Rattle.rpg_cards.specs.Statements.{Calculation, Statement}
use Rattle.rpg_cards.specs.Keys.{Key}
use Rattle.rpg_cards.specs.Sections.{sections_of}
use Rattle.rpg_cards.specs.declared.spec_card.SpecCard.{SpecCard}
use Rattle.rpg_compile_program.specs.Code.{code_from, group_code, calculations_code, step_code, subroutines_code}
use Rattle.rpg_compile_program.specs.Levels.{subroutine_level}
use Rattle.rpg_compile_program.specs.Table.{Table, key_number}
use Rattle.rpg_compile_program.specs.Whole.{subroutine_rows}
use Rattle.rpg_compile.specs.Called.{level_at}
use Rattle.rpg_compile.specs.Numbers.{number_by}
use Rattle.rpg_compile.specs.Walk.{section_in, subroutines_in}
use Rattle.rpg_compile.specs.declared.instruction.Section.{Section}
use Rattle.rpg_compile.specs.declared.numbers.NameNumbers.{NameNumbers}
use Rattle.rpg_compile.specs.declared.part.Part.{Part}
use Rattle.rpg_program.specs.declared.operation.Instruction.{Instruction}
use Rattle.rpg_program.specs.Object.{SubroutineRow}

-- the code of calculations, the first of which begins at this place
abbrev pub code_in : Section → ℕ → List (Calculation Key) → List (Instruction ℕ)
code_in s place gs = code_from (key_number s.table.now) (number_by s.labels.now) (number_by s.subroutines.now) s.own place gs

-- the code of one calculation that begins at this place
abbrev pub calculation_code : Section → ℕ → Calculation Key → List (Instruction ℕ)
calculation_code s place g = group_code (key_number s.table.now) (number_by s.labels.now) (number_by s.subroutines.now) s.own place g

-- what a statement compiles to: nothing, or one instruction
abbrev pub statement_code : Section → Statement Key → List (Instruction ℕ)
statement_code s d = step_code (key_number s.table.now) (number_by s.labels.now) (number_by s.subroutines.now) s.own d

-- the code of a section of these cards, which begins at a place; `own` is the number of the subroutine
abbrev pub rows_of_section : Table → NameNumbers → ℕ → ℕ → Part → List SpecCard → List (Instruction ℕ)
rows_of_section t subroutines own first part cards = calculations_code (key_number t) (number_by subroutines) own first (section_in part cards)

-- the rows of the subroutines of these cards, which begin at a place and have these levels
abbrev pub rows_at_levels : Table → NameNumbers → List ℕ → ℕ → List SpecCard → List SubroutineRow
rows_at_levels t subroutines levels first cards = subroutines_code (key_number t) (number_by subroutines) (level_at levels) 0 first (subroutines_in cards)

-- the rows of the subroutines of these cards, with names numbered by a table
abbrev pub rows_of_subroutines : Table → List SpecCard → List SubroutineRow
rows_of_subroutines t cards = subroutine_rows (key_number t) (subroutine_level (subroutines_in cards)) (sections_of (calculations cards))
