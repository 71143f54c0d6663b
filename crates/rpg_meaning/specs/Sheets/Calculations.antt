-- What C cards mean: a calculation is a card with the AN and OR cards right after it. Numbers are the columns of a C card.
use Rattle.std.specs.Prelude.{ℕ, ◌++◌, ◌==◌, Bool, true, false, ◌&&◌, List, [], ◌∷◌, Option, None, Some, is_some, unwrap_or, if◌then◌else◌}
use Rattle.std.specs.List.{last_or}
use Rattle.std.specs.Option.{option_map, option_map_or}
use Rattle.rpg_cards.specs.Cards.{calculation_on}
use Rattle.rpg_cards.specs.Statements.{Acts, Begins, Calculation, Statement, Ends, Executes, GoesTo, Marks, Nothing, WritesExceptions}
use Rattle.rpg_cards.specs.Keys.{Fixed, Key, Name, Named, Nowhere}
use Rattle.rpg_cards.specs.declared.constants.Constant.TheVariants as constant
use Rattle.rpg_cards.specs.declared.spec_card.SpecCard.{SpecCard}
use Rattle.rpg_program.specs.declared.condition.Condition.{Condition}
use Rattle.rpg_program.specs.declared.condition.Conditions.{Conditions}
use Rattle.rpg_program.specs.declared.operation.Action.TheVariants.{Assign, Compare, Compute, CrossFoot, Divide, LookUp, Move, SetIndicators, TakeRemainder}
use Rattle.rpg_program.specs.declared.operation.Index.TheVariants as index
use Rattle.rpg_program.specs.declared.operation.Operand.{Operand}
use Rattle.rpg_program.specs.declared.operation.Operator.TheVariants as operator
use Rattle.rpg_program.specs.declared.operation.Shows.{Shows}
use Rattle.rpg_program.specs.declared.operation.Side.TheVariants.{Left, Right}
use Rattle.rpg_sheet_specs.specs.declared.calculation.CalculationSpec.{CalculationSpec}
use Rattle.rpg_sheet_specs.specs.declared.calculation.ControlLevel.{ControlLevel}
use Rattle.rpg_sheet_specs.specs.declared.calculation.ControlLevel.TheVariants as control
use Rattle.rpg_sheet_specs.specs.declared.calculation.Operation.{Operation}
use Rattle.rpg_sheet_specs.specs.declared.calculation.Operation.TheVariants as op
use Rattle.rpg_sheet_specs.specs.declared.entry.Entry.{Entry}
use Rattle.rpg_sheet_specs.specs.declared.literal.Factor.{Factor}
use Rattle.rpg_sheet_specs.specs.declared.literal.Factor.TheVariants as factor
use Rattle.rpg_sheet_specs.specs.declared.literal.Literal.TheVariants as literal
use Rattle.rpg_meaning.specs.Sheets.Lines.{meant_conditions, meant_index, meant_places}

-- ---- operands: factor 1 in 18-27, factor 2 in 33-42, the result field in 43-48

-- the operand of a name with its index
abbrev pub entry_named : Entry → Operand Key
entry_named e = record { field = Named e.name; index = meant_index e.index }

-- the operand of a blank column
abbrev pub blank_operand : Operand Key
blank_operand = record { field = Nowhere; index = index.Blank }

-- the operand in a factor
abbrev pub meant_factor : Option Factor → Operand Key
meant_factor None = blank_operand
meant_factor (Some (factor.Entry e)) = entry_named e
meant_factor (Some (factor.Literal (literal.Number n))) = record { field = Fixed (constant.Number n); index = index.Blank }
meant_factor (Some (factor.Literal (literal.Text t))) = record { field = Fixed (constant.Text t); index = index.Blank }

-- the operand in the result field
abbrev pub meant_result : Option Entry → Operand Key
meant_result None = blank_operand
meant_result (Some e) = entry_named e

-- if factor 1 is blank the result field takes its place
abbrev pub first_or : Option Factor → Option Entry → Operand Key
first_or None r = meant_result r
first_or (Some f) r = meant_factor (Some f)

-- the label or the subroutine of GOTO, TAG, EXSR, BEGSR or ENDSR: a name without an index
abbrev pub meant_name : Option Factor → Option Name
meant_name None = None
meant_name (Some (factor.Literal l)) = None
meant_name (Some (factor.Entry e)) = if is_some e.index then None else Some e.name

-- ---- the operation, 28-32

module _ (k : CalculationSpec) where
  -- the resulting indicators: for plus, minus and zero
  abbrev pub meant_indicators : Shows
  meant_indicators = record { plus = k.resulting_indicators.first; minus = k.resulting_indicators.second; zero = k.resulting_indicators.third }

  -- what a C card does, by its operation
  abbrev pub done_by : Option Operation → Statement Key
  done_by None = Nothing
  done_by (Some op.Add) = Acts (Compute operator.Add k.half_adjust (first_or k.factor_1 k.result_field) (meant_factor k.factor_2) (meant_result k.result_field) meant_indicators)
  done_by (Some op.Subtract) = Acts (Compute operator.Subtract k.half_adjust (first_or k.factor_1 k.result_field) (meant_factor k.factor_2) (meant_result k.result_field) meant_indicators)
  done_by (Some op.Multiply) = Acts (Compute operator.Multiply k.half_adjust (first_or k.factor_1 k.result_field) (meant_factor k.factor_2) (meant_result k.result_field) meant_indicators)
  done_by (Some op.Divide) = Acts (Divide k.half_adjust (first_or k.factor_1 k.result_field) (meant_factor k.factor_2) (meant_result k.result_field) meant_indicators)
  done_by (Some op.ZeroAdd) = Acts (Assign false k.half_adjust (meant_factor k.factor_2) (meant_result k.result_field) meant_indicators)
  done_by (Some op.ZeroSubtract) = Acts (Assign true k.half_adjust (meant_factor k.factor_2) (meant_result k.result_field) meant_indicators)
  done_by (Some op.MoveRemainder) = Acts (TakeRemainder (meant_result k.result_field) meant_indicators)
  done_by (Some op.CrossFoot) = Acts (CrossFoot k.half_adjust (meant_factor k.factor_2) (meant_result k.result_field) meant_indicators)
  done_by (Some op.Move) = Acts (Move Right (meant_factor k.factor_2) (meant_result k.result_field))
  done_by (Some op.MoveLeft) = Acts (Move Left (meant_factor k.factor_2) (meant_result k.result_field))
  done_by (Some op.Compare) = Acts (Compare (meant_factor k.factor_1) (meant_factor k.factor_2) meant_indicators)
  done_by (Some op.LookUp) = Acts (LookUp (meant_factor k.factor_1) (meant_factor k.factor_2) (option_map entry_named k.result_field) meant_indicators)
  done_by (Some op.SetOn) = Acts (SetIndicators true meant_indicators)
  done_by (Some op.SetOff) = Acts (SetIndicators false meant_indicators)
  done_by (Some op.GoTo) = GoesTo (meant_name k.factor_2)
  done_by (Some op.Call) = Executes (meant_name k.factor_2)
  done_by (Some op.Label) = Marks (meant_name k.factor_1)
  done_by (Some op.BeginSubroutine) = Begins (meant_name k.factor_1)
  done_by (Some op.EndSubroutine) = Ends (meant_name k.factor_1)
  done_by (Some op.Except) = WritesExceptions

-- ---- conditions

-- 7-8: the calculation is done only if L1 to L9 or LR is on; L0, indicator 100, is always on
abbrev pub meant_level : ControlLevel → Option ℕ
meant_level (control.Total n) = if n == 100 then None else Some n
meant_level _ = None

-- an AN or OR card, by columns 7 and 8
abbrev pub is_continuation : ControlLevel → Bool
is_continuation control.And = true
is_continuation control.Or = true
is_continuation _ = false

-- an OR card
abbrev pub is_or_calculation : CalculationSpec → Bool
is_or_calculation k = by k.control_level
  where
    by : ControlLevel → Bool
    by control.Or = true
    by _ = false

-- 9-17 of one card, if any are filled
abbrev pub filled_conditions_on : CalculationSpec → List Conditions
filled_conditions_on k = tested (meant_conditions k.conditions)
  where
    tested : List Condition → List Conditions
    tested [] = []
    tested (c ∷ cs) = meant_places (c ∷ cs) ∷ []

-- 9-17 of the cards up to the next OR card
abbrev pub tested_further : List CalculationSpec → List Conditions
tested_further [] = []
tested_further (k ∷ ks) = if is_or_calculation k then [] else filled_conditions_on k ++ tested_further ks

-- each OR card begins an alternative, which the AN cards after it continue
abbrev pub tested_else : List CalculationSpec → List (List Conditions)
tested_else [] = []
tested_else (k ∷ ks) = if is_or_calculation k then (filled_conditions_on k ++ tested_further ks) ∷ tested_else ks else tested_else ks

-- ---- calculations

-- the AN and OR cards that these cards begin with
abbrev pub joined_after : List SpecCard → List CalculationSpec
joined_after [] = []
joined_after (c ∷ cs) = option_map_or (λ k. if is_continuation k.control_level then k ∷ joined_after cs else []) (calculation_on c.spec) []

-- a card and the AN and OR cards after it; the last of them has the operation
abbrev pub meant_calculation : CalculationSpec → List CalculationSpec → Calculation Key
meant_calculation k joined = record {
  control = k.control_level;
  level = meant_level k.control_level;
  alternatives = (filled_conditions_on k ++ tested_further joined) ∷ tested_else joined;
  statement = let last = unwrap_or (last_or None joined) k in done_by last last.operation;
}

-- every C card begins a calculation, except an AN or OR card right after another C card
abbrev pub meant_from : Bool → List SpecCard → List (Calculation Key)
meant_from follows_one [] = []
meant_from follows_one (c ∷ cs) =
    option_map_or (λ k. if follows_one && is_continuation k.control_level then [] else meant_calculation k (joined_after cs) ∷ []) (calculation_on c.spec) []
    ++ meant_from (is_some (calculation_on c.spec)) cs

-- the calculations of a source, in the order of their cards
abbrev pub meant_calculations : List SpecCard → List (Calculation Key)
meant_calculations cards = meant_from false cards
