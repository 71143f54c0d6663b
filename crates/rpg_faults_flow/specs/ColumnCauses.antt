-- F9 of calculations: which columns are missing or not allowed, and why.
use Rattle.std.specs.Prelude.{ℕ, ◌==◌, nat_lt, List, Bool, true, false, ◌&&◌, ◌||◌, Option, None, Some, is_none, is_some, option_and_then, if◌then◌else◌}
use Rattle.std.specs.Option.{option_map, option_or}
use Rattle.rpg_cards.specs.Calculations.{CalculationGroup, depends, continues, group_end, open_calculation_group}
use Rattle.rpg_cards.specs.Cards.{calculation_on}
use Rattle.rpg_cards.specs.Groups.{joins}
use Rattle.rpg_sheet_specs.specs.Operations.{card_columns}
use Rattle.rpg_sheet_specs.specs.declared.operations.Column.{Column}
use Rattle.rpg_sheet_specs.specs.declared.operations.Column.TheVariants.{Blank, May, Must}
use Rattle.rpg_sheet_specs.specs.declared.operations.Content.{Content}
use Rattle.rpg_sheet_specs.specs.declared.operations.Shown.{Shown}
use Rattle.rpg_sheet_specs.specs.declared.operations.Shown.TheVariants as shown
use Rattle.rpg_cards.specs.declared.spec_card.SpecCard.{SpecCard}
use Rattle.rpg_faults_flow.specs.declared.columns.ColumnCause.{ColumnCause}
use Rattle.rpg_faults_flow.specs.declared.columns.ColumnCause.TheVariants.{ConditionsNeeded, HighAndLow, IndicatorNeeded, LastCardAlone, LengthAlone, Needed, NoIndicators, NoOperation, NotAllowed, NotPlain, Unconditioned}
use Rattle.rpg_faults_flow.specs.Columns.{bad_by_end, bad_conditions, has_more, is_unfit, may_depend}
use Rattle.rpg_faults_flow.specs.Marks.{further_range}
use Rattle.rpg_sheet_specs.specs.Three.{filled_count}
use Rattle.rpg_sheet_specs.specs.declared.calculation.CalculationSpec.{CalculationSpec}
use Rattle.rpg_sheet_specs.specs.declared.calculation.Operation.{Operation}
use Rattle.rpg_sheet_specs.specs.declared.column_range.ColumnRange.{ColumnRange}
use Rattle.rpg_sheet_specs.specs.declared.column_range.ColumnRange.TheVariants as range
use Rattle.rpg_sheet_specs.specs.declared.indicator.Three.{Three}
use Rattle.rpg_sheet_specs.specs.declared.literal.Factor.{Factor}
use Rattle.rpg_sheet_specs.specs.declared.literal.Factor.TheVariants as factor

-- ---- what an operation has, on the last card of its group

-- a label or a subroutine that isn't a plain name
abbrev pub unless_plain : ColumnRange → Content → Factor → Option ColumnCause
unless_plain at c f = if is_unfit c f then Some (NotPlain at) else None

-- columns that are filled though the operation has none there, blank though it needs them, or no plain name
abbrev pub of_column : ColumnRange → Column → Option Factor → Option ColumnCause
of_column at Blank f = option_map (λ x. NotAllowed at) f
of_column at (May c) f = option_and_then (unless_plain at c) f
of_column at (Must c) None = Some (Needed at)
of_column at (Must c) (Some f) = unless_plain at c f

-- resulting indicators if the operation has none, none if it needs one, or high with low
abbrev pub of_shown : Shown → Three (Option ℕ) → Option ColumnCause
of_shown shown.Unused t = if nat_lt 0 (filled_count t) then Some NoIndicators else None
of_shown shown.Any t = None
of_shown shown.Some t = if filled_count t == 0 then Some IndicatorNeeded else None
of_shown shown.Search t = if filled_count t == 0 then Some IndicatorNeeded else (if is_some t.first && is_some t.second then Some HighAndLow else None)

-- the first of the operation's columns that is wrong
abbrev pub operation_column_cause : CalculationSpec → Operation → Option ColumnCause
operation_column_cause k o =
    option_or (of_column range.FirstFactor (card_columns o).factor_1 k.factor_1)
    (option_or (of_column range.SecondFactor (card_columns o).factor_2 k.factor_2)
    (option_or (of_column range.ResultName (card_columns o).result_field (option_map factor.Entry k.result_field))
    (of_shown (card_columns o).indicators k.resulting_indicators)))

-- ---- the cards of a group

-- the last card of a group has the operation
abbrev pub last_card_column_cause : CalculationSpec → Option Operation → Option ColumnCause
last_card_column_cause k None = Some NoOperation
last_card_column_cause k (Some o) = operation_column_cause k o

-- a card before the last has conditions alone
abbrev pub end_column_cause : Bool → CalculationSpec → Option ColumnCause
end_column_cause true k = if has_more k then Some (LastCardAlone (further_range k)) else None
end_column_cause false k = last_card_column_cause k k.operation

-- of several cards each has conditions, and none has any if the operation has none
abbrev pub of_conditions : Option CalculationGroup → CalculationSpec → List SpecCard → Option ColumnCause
of_conditions group k after =
    if depends k then (if may_depend (group_end k after) then None else Some Unconditioned)
    else (if continues after || (joins k.control_level && is_some group) then Some ConditionsNeeded else None)

-- a length without a result field
abbrev pub length_column_cause : CalculationSpec → Option ColumnCause
length_column_cause k = if is_some k.length && is_none k.result_field then Some LengthAlone else None

-- F9 of a calculation card, with the group that is open before it
abbrev pub calculation_column_cause : Option CalculationGroup → CalculationSpec → List SpecCard → Option ColumnCause
calculation_column_cause group k after = option_or (length_column_cause k) (option_or (end_column_cause (continues after) k) (of_conditions group k after))

-- the same as a test
abbrev pub has_bad_columns : Option CalculationGroup → CalculationSpec → List SpecCard → Bool
has_bad_columns group k after = (is_some k.length && is_none k.result_field) || (bad_by_end (continues after) k || bad_conditions group k after)

-- F9 of a card, if it is a C card
abbrev pub card_column_cause : List SpecCard → SpecCard → List SpecCard → Option ColumnCause
card_column_cause before c after = option_and_then (λ k. calculation_column_cause (open_calculation_group before) k after) (calculation_on c.spec)
