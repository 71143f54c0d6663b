-- What calculations do and when, by keys of any kind: names and constants on cards, numbers in a program.
use Rattle.std.specs.Prelude.{ℕ, ◌+◌, Bool, true, false, List, [], ◌∷◌, length, Option, None, Some, unwrap_or}
use Rattle.std.specs.Option.{option_and_then, option_map}
use Rattle.rpg_cards.specs.Keys.{Key, Name, entry_operand, factor_operand, nowhere, plain_name}
use Rattle.rpg_program.specs.declared.condition.Conditions.{Conditions}
use Rattle.rpg_program.specs.declared.operation.Action.{Action}
use Rattle.rpg_program.specs.declared.operation.Action.TheVariants.{Compute, Divide, Assign, TakeRemainder, CrossFoot, Compare, LookUp, Move, SetIndicators}
use Rattle.rpg_program.specs.declared.operation.Operand.{Operand}
use Rattle.rpg_program.specs.declared.operation.Operator.{Operator}
use Rattle.rpg_program.specs.declared.operation.Operator.TheVariants as operator
use Rattle.rpg_program.specs.declared.operation.Shows.{Shows}
use Rattle.rpg_program.specs.declared.operation.Side.TheVariants.{Right, Left}
use Rattle.rpg_sheet_specs.specs.declared.calculation.CalculationSpec.{CalculationSpec}
use Rattle.rpg_sheet_specs.specs.declared.calculation.ControlLevel.{ControlLevel}
use Rattle.rpg_sheet_specs.specs.declared.calculation.Operation.{Operation}
use Rattle.rpg_sheet_specs.specs.declared.calculation.Operation.TheVariants as op
use Rattle.rpg_sheet_specs.specs.declared.indicator.Three.{Three}

-- Labels and subroutines go by name; none if the card has none.
pub data Statement (K : Type 0) : Type 0 where
  Acts : Action (Operand K) → Statement K
  WritesExceptions : Statement K  -- EXCPT
  GoesTo : Option Name → Statement K  -- GOTO
  Executes : Option Name → Statement K  -- EXSR
  Marks : Option Name → Statement K  -- TAG
  Begins : Option Name → Statement K  -- BEGSR
  Ends : Option Name → Statement K  -- ENDSR, with its label
  Nothing : Statement K  -- no operation

-- TAG and BEGSR compile to no instruction
abbrev pub has_instruction : Statement Key → Bool
has_instruction (Marks l) = false
has_instruction (Begins s) = false
has_instruction Nothing = false
has_instruction _ = true

-- A group of C cards. It is done if its level indicator is on and all conditions of one of its alternatives hold. The alternatives have the
-- conditions of its cards; there is a single empty one if no card has any.
pub record Calculation (K : Type 0) : Type 0 where
  pub control : ControlLevel
  pub level : Option ℕ
  pub alternatives : List (List Conditions)
  pub statement : Statement K

-- how many cards have conditions
abbrev pub tests : List (List Conditions) → ℕ
tests [] = 0
tests (cs ∷ rest) = length cs + tests rest

-- ---- the statement of a card

-- three resulting indicators: for plus, minus and zero
abbrev pub shows_of : Three (Option ℕ) → Shows
shows_of t = record { plus = t.first; minus = t.second; zero = t.third }

module _ (k : CalculationSpec) where
  -- the operand in factor 1
  abbrev pub factor_1_operand : Operand Key
  factor_1_operand = unwrap_or (option_map factor_operand k.factor_1) nowhere

  -- the operand in factor 2
  abbrev pub factor_2_operand : Operand Key
  factor_2_operand = unwrap_or (option_map factor_operand k.factor_2) nowhere

  -- the operand in the result field
  abbrev pub result_operand : Operand Key
  result_operand = unwrap_or (option_map entry_operand k.result_field) nowhere

  -- a blank factor 1 is the result field
  abbrev pub first_or_result : Operand Key
  first_or_result = unwrap_or (option_map factor_operand k.factor_1) result_operand

  -- the resulting indicators
  abbrev pub resulting_shows : Shows
  resulting_shows = shows_of k.resulting_indicators

  -- the label or subroutine that factor 1 defines
  abbrev pub given_name : Option Name
  given_name = option_and_then plain_name k.factor_1

  -- the label or subroutine that factor 2 refers to
  abbrev pub wanted_name : Option Name
  wanted_name = option_and_then plain_name k.factor_2

  -- arithmetic on factor 1 and factor 2, where a blank factor 1 means the result field
  abbrev pub computes : Operator → Statement Key
  computes o = Acts (Compute o k.half_adjust first_or_result factor_2_operand result_operand resulting_shows)

  -- what the operation does with the columns of its card
  abbrev pub statement_by : Operation → Statement Key
  statement_by op.Add = computes operator.Add
  statement_by op.Subtract = computes operator.Subtract
  statement_by op.Multiply = computes operator.Multiply
  statement_by op.Divide = Acts (Divide k.half_adjust first_or_result factor_2_operand result_operand resulting_shows)
  statement_by op.ZeroAdd = Acts (Assign false k.half_adjust factor_2_operand result_operand resulting_shows)
  statement_by op.ZeroSubtract = Acts (Assign true k.half_adjust factor_2_operand result_operand resulting_shows)
  statement_by op.MoveRemainder = Acts (TakeRemainder result_operand resulting_shows)
  statement_by op.CrossFoot = Acts (CrossFoot k.half_adjust factor_2_operand result_operand resulting_shows)
  statement_by op.Move = Acts (Move Right factor_2_operand result_operand)
  statement_by op.MoveLeft = Acts (Move Left factor_2_operand result_operand)
  statement_by op.Compare = Acts (Compare factor_1_operand factor_2_operand resulting_shows)
  statement_by op.LookUp = Acts (LookUp factor_1_operand factor_2_operand (option_map entry_operand k.result_field) resulting_shows)
  statement_by op.SetOn = Acts (SetIndicators true resulting_shows)
  statement_by op.SetOff = Acts (SetIndicators false resulting_shows)
  statement_by op.GoTo = GoesTo wanted_name
  statement_by op.Call = Executes wanted_name
  statement_by op.Label = Marks given_name
  statement_by op.BeginSubroutine = Begins given_name
  statement_by op.EndSubroutine = Ends given_name
  statement_by op.Except = WritesExceptions

  -- what the card does, with its operation or without one
  abbrev pub statement_from : Option Operation → Statement Key
  statement_from None = Nothing
  statement_from (Some o) = statement_by o

-- what a C card does
abbrev pub statement_of : CalculationSpec → Statement Key
statement_of k = statement_from k k.operation
