-- Which columns of a calculation card a fault of its columns points at.
use Rattle.std.specs.Prelude.{ℕ, Option, is_some, if◌then◌else◌}
use Rattle.rpg_faults_flow.specs.declared.columns.ColumnCause.{ColumnCause}
use Rattle.rpg_faults_flow.specs.declared.columns.ColumnCause.TheVariants.{ConditionsNeeded, HighAndLow, IndicatorNeeded, LastCardAlone, LengthAlone, Needed, NoIndicators, NoOperation, NotAllowed, NotPlain, Unconditioned}
use Rattle.rpg_sheet_specs.specs.declared.calculation.CalculationSpec.{CalculationSpec}
use Rattle.rpg_sheet_specs.specs.declared.column_range.ColumnRange.{ColumnRange}
use Rattle.rpg_sheet_specs.specs.declared.column_range.ColumnRange.TheVariants as range
use Rattle.rpg_sheet_specs.specs.declared.indicator.ConditionSpec.{ConditionSpec}
use Rattle.rpg_sheet_specs.specs.declared.indicator.Three.{Three}

-- ---- F9: a length without a result field; what is missing or not allowed with the operation; otherwise the
-- conditions

-- the first one, or the columns of missing ones
abbrev pub shown_range : Three (Option ℕ) → ColumnRange
shown_range t =
    if is_some t.first then range.ResultPlus
    else if is_some t.second then range.ResultMinus
    else if is_some t.third then range.ResultZero
    else range.ResultingIndicators

-- the first condition, or the columns of all three
abbrev pub condition_range : Three (Option ConditionSpec) → ColumnRange
condition_range t =
    if is_some t.first then range.FirstCondition
    else if is_some t.second then range.SecondCondition
    else if is_some t.third then range.ThirdCondition
    else range.Conditions

-- what a card before the last has besides its conditions
abbrev pub further_range : CalculationSpec → ColumnRange
further_range k =
    if is_some k.factor_1 then range.FirstFactor
    else if is_some k.operation then range.Operation
    else if is_some k.factor_2 then range.SecondFactor
    else if is_some k.result_field then range.ResultName
    else shown_range k.resulting_indicators

-- what a cause is about
abbrev pub column_range : CalculationSpec → ColumnCause → ColumnRange
column_range k (NotAllowed at) = at
column_range k (Needed at) = at
column_range k (NotPlain at) = at
column_range k NoIndicators = shown_range k.resulting_indicators
column_range k IndicatorNeeded = shown_range k.resulting_indicators
column_range k HighAndLow = shown_range k.resulting_indicators
column_range k NoOperation = range.Operation
column_range k (LastCardAlone at) = at
column_range k ConditionsNeeded = condition_range k.conditions
column_range k Unconditioned = condition_range k.conditions
column_range k LengthAlone = range.ResultLength
