-- What a statement compiles to.
use Rattle.std.specs.Prelude.{ℕ, Bool, ◌+◌, ◌++◌, List, [], ◌∷◌, length, Option, None, Some}
use Rattle.rpg_cards.specs.Calculations.{awaited_level}
use Rattle.rpg_cards.specs.Statements.{Acts, Statement, factor_2_operand, first_or_result, result_operand, resulting_shows}
use Rattle.rpg_cards.specs.Keys.{Key}
use Rattle.rpg_cards.specs.declared.spec_card.SpecCard.{SpecCard}
use Rattle.rpg_compile_program.specs.Code.{level_code, tests_code, waits}
use Rattle.rpg_program.specs.declared.operation.Action.{Action}
use Rattle.rpg_program.specs.declared.operation.Action.TheVariants.{Assign, Compute, Move}
use Rattle.rpg_program.specs.declared.operation.Instruction.{Instruction}
use Rattle.rpg_program.specs.declared.operation.Operand.{Operand}
use Rattle.rpg_program.specs.declared.operation.Operator.{Operator}
use Rattle.rpg_program.specs.declared.operation.Side.{Side}
use Rattle.rpg_compile.specs.Tests.{alternatives_in, tests_in}
use Rattle.rpg_compile.specs.Walk.{size_with}
use Rattle.rpg_sheet_specs.specs.declared.calculation.CalculationSpec.{CalculationSpec}

-- what it does to fields
abbrev pub action_in : Statement Key → Option (Action (Operand Key))
action_in (Acts a) = Some a
action_in _ = None

-- ADD, SUB and MULT of a card
abbrev pub computed_action : Operator → CalculationSpec → Action (Operand Key)
computed_action o k = Compute o k.half_adjust (first_or_result k) (factor_2_operand k) (result_operand k) (resulting_shows k)

-- Z-ADD and Z-SUB of a card
abbrev pub assigned_action : Bool → CalculationSpec → Action (Operand Key)
assigned_action is_negated k = Assign is_negated k.half_adjust (factor_2_operand k) (result_operand k) (resulting_shows k)

-- MOVE and MOVEL of a card
abbrev pub moved_action : Side → CalculationSpec → Action (Operand Key)
moved_action side k = Move side (factor_2_operand k) (result_operand k)

-- the instructions of a group of cards, the last of which is given
abbrev pub code_of_group : ℕ → CalculationSpec → List SpecCard → Instruction ℕ → List (Instruction ℕ)
code_of_group place first cards i =
    level_code (place + size_with first cards) (awaited_level first.control_level)
    ++ (tests_code (place + waits (awaited_level first.control_level)) (place + waits (awaited_level first.control_level) + length (tests_in cards)) (place + size_with first cards) (alternatives_in cards) ++ i ∷ [])
