-- The most steps that a cycle can take.
use Rattle.std.specs.Prelude.{ℕ, ◌+◌, ◌-◌, ◌*◌, List, [], ◌∷◌, ◌++◌, length, max, nat_le, slice_index, if◌then◌else◌}
use Rattle.rpg_program.specs.Weights.{types_weight}
use Rattle.rpg_program.specs.declared.operation.Instruction.{Instruction}
use Rattle.rpg_program.specs.declared.operation.Instruction.TheVariants.{Branch}
use Rattle.rpg_program.specs.ObjectInstructions.{weight}
use Rattle.rpg_program.specs.Object.{Object, SubroutineRow}
use Rattle.rpg_program.specs.Sections.{first_place, section_instructions}
use Rattle.rpg_program.specs.declared.section.Place.{Place}
use Rattle.rpg_program.specs.declared.section.Section.{Section}
use Rattle.rpg_verify.specs.Paths.{SectionCode, costs_from}
use Rattle.rpg_verify.specs.Weighing.{all_outputs_weight}

-- a section of a program, with its first place
abbrev pub code_of_section : Object → Section → SectionCode
code_of_section p s = record { first = first_place p s; code = section_instructions p s }

-- the costs of the places of a section that begins at a place
abbrev pub costs_at : Object → ℕ → List (Instruction ℕ) → List ℕ
costs_at p first code = costs_from (weight p) first code

-- the cost of a place among those of a section that begins at `first`; 0 at its end and for any other
abbrev pub cost_in : ℕ → List ℕ → ℕ → ℕ
cost_in first costs place = if nat_le first place then slice_index costs (place - first) else 0

-- the cost of a place of the program
abbrev pub cost : Object → Place → ℕ
cost p x = cost_in (first_place p x.section) (costs_at p (first_place p x.section) (section_instructions p x.section)) x.number

-- the cost of the first place of a section that begins at `first`
abbrev pub first_cost : Object → ℕ → List (Instruction ℕ) → ℕ
first_cost p first code = slice_index (costs_at p first code) 0

-- ---- the greatest cost that a spend leads to: that of a branch's target not later than the branch, or of a subroutine's first place

-- the cost of a backward branch's target
abbrev pub back_cost : ℕ → List ℕ → ℕ → Instruction ℕ → ℕ
back_cost first costs place (Branch is_taken_where cs target) = if nat_le target place then cost_in first costs target else 0
back_cost first costs place i = 0

-- for the instructions of a section from a place on
abbrev pub most_back : ℕ → List ℕ → ℕ → List (Instruction ℕ) → ℕ
most_back first costs place [] = 0
most_back first costs place (i ∷ is) = max (back_cost first costs place i) (most_back first costs (place + 1) is)

-- for a section
abbrev pub most_at : Object → ℕ → List (Instruction ℕ) → ℕ
most_at p first code = most_back first (costs_at p first code) first code

-- for a subroutine, which is also called
abbrev pub most_called : Object → ℕ → List (Instruction ℕ) → ℕ
most_called p first code = max (first_cost p first code) (most_at p first code)

-- for subroutines, the first of which begins at a place
abbrev pub most_in : Object → ℕ → List SubroutineRow → ℕ
most_in p first [] = 0
most_in p first (s ∷ ss) = max (most_called p first s.instructions) (most_in p (first + length s.instructions) ss)

-- for detail and total calculations
abbrev pub main_most : Object → ℕ
main_most p = max (most_at p 0 p.detail) (most_at p (length p.detail) p.total)

-- for the program
abbrev pub most : Object → ℕ
most p = max (main_most p) (most_in p (length p.detail + length p.total) p.subroutines)

-- ---- everything that a cycle can take

-- the greatest cost of detail and total calculations, without what is spent
abbrev pub once : Object → ℕ
once p = first_cost p 0 p.detail + first_cost p (length p.detail) p.total

-- the most steps of a cycle: its lines and fields, each instruction once, and each backward branch or call that the allowance pays
-- for
unfoldable pub bound : Object → ℕ
bound p = types_weight p.types + all_outputs_weight p + once p + p.allowance * most p

-- ---- the costs of all places, in order

-- the costs of these subroutines
abbrev pub costs_in : Object → ℕ → List SubroutineRow → List ℕ
costs_in p first [] = []
costs_in p first (s ∷ ss) = costs_at p first s.instructions ++ costs_in p (first + length s.instructions) ss

-- those of detail and total calculations
abbrev pub main_costs : Object → List ℕ
main_costs p = costs_at p 0 p.detail ++ costs_at p (length p.detail) p.total

-- the costs of all instructions: detail, total, then each subroutine
abbrev pub costs : Object → List ℕ
costs p = main_costs p ++ costs_in p (length p.detail + length p.total) p.subroutines
