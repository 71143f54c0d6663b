-- F8: why an indicator isn't allowed.
use Rattle.std.specs.Prelude.{ℕ, List, Option, None, Some, is_none, is_some, option_and_then, ◌&&◌, ◌||◌, if◌then◌else◌}
use Rattle.std.specs.Option.{option_or}
use Rattle.rpg_cards.specs.declared.spec_card.SpecCard.{SpecCard}
use Rattle.rpg_causes_operands.specs.declared.indicators.IndicatorCause.{IndicatorCause}
use Rattle.rpg_causes_operands.specs.declared.indicators.IndicatorCause.TheVariants.{FirstPage, NeverSet, NoMatchFields, NotOfType, TextField}
use Rattle.rpg_causes_operands.specs.declared.indicators.IndicatorFault.{IndicatorFault}
use Rattle.rpg_faults_operands.specs.Indicators.{cannot_be_set, cannot_mark_type, is_1p, is_barred_mr}
use Rattle.rpg_sheet_specs.specs.declared.calculation.CalculationSpec.{CalculationSpec}
use Rattle.rpg_sheet_specs.specs.declared.column_range.ColumnRange.{ColumnRange}
use Rattle.rpg_sheet_specs.specs.declared.column_range.ColumnRange.TheVariants as range
use Rattle.rpg_sheet_specs.specs.declared.indicator.ConditionSpec.{ConditionSpec}
use Rattle.rpg_sheet_specs.specs.declared.indicator.Three.{Three}
use Rattle.rpg_sheet_specs.specs.declared.input.InputFieldSpec.{InputFieldSpec}
use Rattle.rpg_sheet_specs.specs.declared.input.InputSpec.{InputSpec}
use Rattle.rpg_sheet_specs.specs.declared.input.InputSpec.TheVariants as input
use Rattle.rpg_sheet_specs.specs.declared.output.OutputSpec.{OutputSpec}
use Rattle.rpg_sheet_specs.specs.declared.output.OutputSpec.TheVariants as output
use Rattle.rpg_sheet_specs.specs.declared.spec.Spec.{Spec}
use Rattle.rpg_sheet_specs.specs.declared.spec.Spec.TheVariants as spec

-- the columns of the indicators of an input field
abbrev pub input_columns : Three ColumnRange
input_columns = record { first = range.InputPlus; second = range.InputMinus; third = range.InputZero }

-- the columns of resulting indicators
abbrev pub result_columns : Three ColumnRange
result_columns = record { first = range.ResultPlus; second = range.ResultMinus; third = range.ResultZero }

-- the columns of the conditions of a calculation
abbrev pub condition_columns : Three ColumnRange
condition_columns = record { first = range.FirstCondition; second = range.SecondCondition; third = range.ThirdCondition }

-- the columns of the conditions of a line
abbrev pub line_columns : Three ColumnRange
line_columns = record { first = range.FirstLineCondition; second = range.SecondLineCondition; third = range.ThirdLineCondition }

-- a cause, with its columns
abbrev pub fault_at : ColumnRange → IndicatorCause → IndicatorFault
fault_at at cause = record { at = at; cause = cause }

-- the first cause among three, in the order of their columns
abbrev pub first_cause_of_three : {X : Type 0} → (ColumnRange → X → Option IndicatorFault) → Three ColumnRange → Three (Option X) → Option IndicatorFault
first_cause_of_three cause at t =
    option_or (option_and_then (cause at.first) t.first) (option_or (option_and_then (cause at.second) t.second) (option_and_then (cause at.third) t.third))

-- an indicator that record types don't turn on
abbrev pub type_indicator_cause : ℕ → Option IndicatorFault
type_indicator_cause n = if cannot_mark_type n then Some (fault_at range.TypeIndicator (NotOfType n)) else None

-- an indicator that results and fields don't set
abbrev pub of_setting : ColumnRange → ℕ → Option IndicatorFault
of_setting at n = if cannot_be_set n then Some (fault_at at (NeverSet n)) else None

-- MR if no field has a match level
abbrev pub line_indicator_cause : List SpecCard → ColumnRange → ConditionSpec → Option IndicatorFault
line_indicator_cause cards at c = if is_barred_mr cards c.indicator then Some (fault_at at NoMatchFields) else None

-- 1P, or MR if no field has a match level
abbrev pub of_condition : List SpecCard → ColumnRange → ConditionSpec → Option IndicatorFault
of_condition cards at c = if is_1p c.indicator then Some (fault_at at FirstPage) else line_indicator_cause cards at c

-- a text has no indicator of plus or minus
abbrev pub of_text : InputFieldSpec → Option IndicatorFault
of_text f =
    if is_none f.decimals && (is_some f.indicators.first || is_some f.indicators.second)
    then Some (fault_at (if is_some f.indicators.first then range.InputPlus else range.InputMinus) (TextField f.name)) else None

-- F8 of an I card
abbrev pub input_indicator_cause : InputSpec → Option IndicatorFault
input_indicator_cause (input.Type t) = option_and_then type_indicator_cause t.indicator
input_indicator_cause (input.And codes) = None
input_indicator_cause (input.Field f) = option_or (first_cause_of_three of_setting input_columns f.indicators) (of_text f)

-- F8 of a C card
abbrev pub calculation_indicator_cause : List SpecCard → CalculationSpec → Option IndicatorFault
calculation_indicator_cause cards k = option_or (first_cause_of_three (of_condition cards) condition_columns k.conditions) (first_cause_of_three of_setting result_columns k.resulting_indicators)

-- F8 of an O card
abbrev pub output_indicator_cause : List SpecCard → OutputSpec → Option IndicatorFault
output_indicator_cause cards (output.Record r) = first_cause_of_three (line_indicator_cause cards) line_columns r.conditions
output_indicator_cause cards (output.And t) = first_cause_of_three (line_indicator_cause cards) line_columns t
output_indicator_cause cards (output.Or t) = first_cause_of_three (line_indicator_cause cards) line_columns t
output_indicator_cause cards (output.Field f) = first_cause_of_three (line_indicator_cause cards) line_columns f.conditions

-- F8 of a card of any sheet
abbrev pub card_indicator_cause : List SpecCard → Spec → Option IndicatorFault
card_indicator_cause cards (spec.Input i) = input_indicator_cause i
card_indicator_cause cards (spec.Calculation k) = calculation_indicator_cause cards k
card_indicator_cause cards (spec.Output o) = output_indicator_cause cards o
card_indicator_cause cards _ = None
