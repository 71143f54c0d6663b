-- The instructions of calculations.
use Rattle.std.specs.Prelude.{ℕ, suc, ◌+◌, ◌++◌, true, false, List, [], ◌∷◌, length, map, Option, None, Some, if◌then◌else◌}
use Rattle.rpg_program.specs.declared.condition.Conditions.{Conditions}
use Rattle.rpg_program.specs.declared.operation.Instruction.{Instruction}
use Rattle.rpg_program.specs.declared.operation.Instruction.TheVariants as made
use Rattle.rpg_program.specs.Object.{SubroutineRow}
use Rattle.rpg_cards.specs.Statements.{Acts, Calculation, Statement, Ends, Executes, GoesTo, WritesExceptions, has_instruction}
use Rattle.rpg_cards.specs.Keys.{Key, Name}
use Rattle.rpg_cards.specs.Sections.{Subroutine}
use Rattle.rpg_cards.specs.Sections.{is_same_name, label_on}
use Rattle.rpg_cards.specs.Statements.{tests}
use Rattle.rpg_program.specs.Naming.{renamed_action}

-- ---- how many instructions

-- how many instructions a level indicator takes
abbrev pub waits : Option ℕ → ℕ
waits None = 0
waits (Some n) = 1

-- how many instructions a group of C cards becomes
unfoldable pub size : Calculation Key → ℕ
size g = if has_instruction g.statement then waits g.level + tests g.alternatives + 1 else 0

-- how many instructions the groups compile to together
abbrev pub sizes : List (Calculation Key) → ℕ
sizes [] = 0
sizes (g ∷ gs) = size g + sizes gs

-- ---- labels

-- the place of the next instruction of the section after a label; its end if there is no such label
abbrev pub label_place : Option Name → List (Calculation Key) → ℕ → ℕ
label_place n [] place = place
label_place n (g ∷ gs) place = if is_same_name n (label_on g.statement) then place else label_place n gs (place + size g)

-- ---- instructions

-- no conditions
abbrev pub no_conditions : Conditions
no_conditions = record { first = None; second = None; third = None }

-- the condition that a level indicator is on
abbrev pub on_level : ℕ → Conditions
on_level n = record { first = Some (record { indicator = n; is_negated = false }); second = None; third = None }

-- a JUMP: it is taken if all conditions hold
abbrev pub jump : ℕ → Conditions → Instruction ℕ
jump target cs = made.Branch true cs target

-- a SKIP: it is taken if a condition doesn't hold
abbrev pub skip_code : ℕ → Conditions → Instruction ℕ
skip_code target cs = made.Branch false cs target

-- a SKIP past the group, if it waits for an indicator
abbrev pub level_code : ℕ → Option ℕ → List (Instruction ℕ)
level_code following None = []
level_code following (Some n) = skip_code following (on_level n) ∷ []

-- an alternative before the last one: SKIPs to the next one, and a JUMP to the operation
abbrev pub alternative_code : ℕ → ℕ → List Conditions → List (Instruction ℕ)
alternative_code next operation [] = []
alternative_code next operation (cs ∷ []) = jump operation cs ∷ []
alternative_code next operation (cs ∷ ds ∷ rest) = skip_code next cs ∷ alternative_code next operation (ds ∷ rest)

-- alternatives from a place on; the last one SKIPs past the group
abbrev pub tests_code : ℕ → ℕ → ℕ → List (List Conditions) → List (Instruction ℕ)
tests_code place operation following [] = []
tests_code place operation following (cs ∷ []) = map (skip_code following) cs
tests_code place operation following (cs ∷ ds ∷ rest) = alternative_code (place + length cs) operation cs ++ tests_code (place + length cs) operation following (ds ∷ rest)

-- numbers of fields, places of labels, numbers of subroutines, and the number of the running one
module _ (number : Key → ℕ) (place_of callee_of : Option Name → ℕ) (own : ℕ) where
  -- the instruction of an operation; TAG, BEGSR and a blank operation become none
  unfoldable pub step_code : Statement Key → List (Instruction ℕ)
  step_code (Acts a) = made.Act (renamed_action number a) ∷ []
  step_code WritesExceptions = made.Except ∷ []
  step_code (GoesTo l) = jump (place_of l) no_conditions ∷ []
  step_code (Executes s) = made.Call (callee_of s) ∷ []
  step_code (Ends l) = made.Return own ∷ []
  step_code _ = []

  -- a group of C cards from a place on: the level indicator, the tests of its conditions, and the operation
  unfoldable pub group_code : ℕ → Calculation Key → List (Instruction ℕ)
  group_code place g =
      if has_instruction g.statement then
      level_code (place + size g) g.level
      ++ (tests_code (place + waits g.level) (place + waits g.level + tests g.alternatives) (place + size g) g.alternatives
      ++ step_code g.statement)
      else []

  -- groups one after another, from a place on
  unfoldable pub code_from : ℕ → List (Calculation Key) → List (Instruction ℕ)
  code_from place [] = []
  code_from place (g ∷ gs) = group_code place g ++ code_from (place + size g) gs

-- a section that begins at a place: its labels are its own
unfoldable pub calculations_code : (Key → ℕ) → (Option Name → ℕ) → ℕ → ℕ → List (Calculation Key) → List (Instruction ℕ)
calculations_code number callee_of own first gs = code_from number (λ l. label_place l gs first) callee_of own first gs

-- subroutines from a number on, which begin at a place
unfoldable pub subroutines_code : (Key → ℕ) → (Option Name → ℕ) → (ℕ → ℕ) → ℕ → ℕ → List (Subroutine Key) → List SubroutineRow
subroutines_code number callee_of level own first [] = []
subroutines_code number callee_of level own first (s ∷ ss) =
    record { level = level own; instructions = calculations_code number callee_of own first s.body }
    ∷ subroutines_code number callee_of level (suc own) (first + sizes s.body) ss
