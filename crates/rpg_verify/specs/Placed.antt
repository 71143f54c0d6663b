-- The instructions of a program with their sections, in the order of their places.
use Rattle.std.specs.Prelude.{ℕ, ◌+◌, List, [], ◌∷◌, ◌++◌, map, Option, slice_get}
use Rattle.rpg_program.specs.declared.operation.Instruction.{Instruction}
use Rattle.rpg_program.specs.Object.{Object, SubroutineRow}
use Rattle.rpg_program.specs.Sections.{first_place, level_of, place_after}
use Rattle.rpg_program.specs.declared.section.Section.{Section}
use Rattle.rpg_program.specs.declared.section.Section.TheVariants.{Detail, Total, Subroutine}
use Rattle.rpg_program.specs.declared.spans.Span.{Span}
use Rattle.rpg_verify.specs.declared.places.Placed.{Placed}

-- a section with its level, its first place and its end
abbrev pub span_of : Object → Section → Span
span_of p s = record { section = s; level = level_of p s; first = first_place p s; end = place_after p s }

-- an instruction of a section
abbrev pub placed_in : Object → Section → Instruction ℕ → Placed
placed_in p s i = record { span = span_of p s; instruction = i }

-- the instructions of the subroutines from a number on
abbrev pub placed_in_subroutines : Object → ℕ → List SubroutineRow → List Placed
placed_in_subroutines p n [] = []
placed_in_subroutines p n (s ∷ ss) = map (placed_in p (Subroutine n)) s.instructions ++ placed_in_subroutines p (n + 1) ss

-- those after detail calculations
abbrev pub placed_after_detail : Object → List Placed
placed_after_detail p = map (placed_in p Total) p.total ++ placed_in_subroutines p 0 p.subroutines

-- all instructions of a program in the order of their places
abbrev pub all_placed : Object → List Placed
all_placed p = map (placed_in p Detail) p.detail ++ placed_after_detail p

-- the instruction at a place, with its section
unfoldable pub placed_instruction : Object → ℕ → Option Placed
placed_instruction p place = slice_get (all_placed p) place
