-- W1, W2 and W5: which indicators are warned of, and at which card.
use Rattle.std.specs.Prelude.{ℕ, ◌+◌, List, [], ◌++◌, Bool, true, false, not, ◌&&◌, ◌||◌, ◌==◌, nat_le, suc, zero, Option, None, Some, is_some, find, if◌then◌else◌}
use Rattle.std.specs.List.{list_any}
use Rattle.std.specs.Option.{option_map, option_map_or, option_to_list}
use Rattle.rpg_cards.specs.Times.{line_conditions_on}
use Rattle.rpg_cards.specs.declared.spec_card.SpecCard.{SpecCard}
use Rattle.rpg_sheet_specs.specs.declared.calculation.CalculationSpec.{CalculationSpec}
use Rattle.rpg_sheet_specs.specs.declared.calculation.ControlLevel.{ControlLevel}
use Rattle.rpg_sheet_specs.specs.declared.calculation.ControlLevel.TheVariants as control
use Rattle.rpg_sheet_specs.specs.declared.calculation.Operation.{Operation}
use Rattle.rpg_sheet_specs.specs.declared.calculation.Operation.TheVariants as operation
use Rattle.rpg_sheet_specs.specs.declared.column.ColumnFault.{ColumnFault}
use Rattle.rpg_sheet_specs.specs.declared.indicator.ConditionSpec.{ConditionSpec}
use Rattle.rpg_sheet_specs.specs.declared.indicator.Three.{Three}
use Rattle.rpg_sheet_specs.specs.declared.input.InputSpec.{InputSpec}
use Rattle.rpg_sheet_specs.specs.declared.input.InputSpec.TheVariants as input
use Rattle.rpg_sheet_specs.specs.declared.spec.Spec.{Spec}
use Rattle.rpg_sheet_specs.specs.declared.spec.Spec.TheVariants as spec
use Rattle.rpg_warnings_lines.specs.declared.warning.Warning.{Warning}
use Rattle.rpg_warnings_lines.specs.declared.warning.WarningKind.TheVariants as kind

-- ---- asking

-- the conditions of a card
abbrev pub conditions_on_card : Spec → Option (Three (Option ConditionSpec))
conditions_on_card (spec.Calculation k) = Some k.conditions
conditions_on_card (spec.Output o) = Some (line_conditions_on o)
conditions_on_card _ = None

-- the first of a card's nine columns of conditions
abbrev pub conditions_begin : Spec → ℕ
conditions_begin (spec.Calculation k) = 9
conditions_begin s = 23

-- the condition is on that indicator
abbrev pub one_tests : ℕ → Option ConditionSpec → Bool
one_tests n c = option_map_or (λ x. x.indicator == n) c false

-- one of three conditions is on that indicator
abbrev pub any_tests : ℕ → Three (Option ConditionSpec) → Bool
any_tests n t = one_tests n t.first || one_tests n t.second || one_tests n t.third

-- the indicator of a calculation at total time
abbrev pub total_of : ControlLevel → Option ℕ
total_of (control.Total n) = Some n
total_of _ = None

-- the control level in columns 7-8 of a C card
abbrev pub total_on : Spec → Option ℕ
total_on (spec.Calculation k) = total_of k.control_level
total_on s = None

-- the control level of the card is that indicator
abbrev pub level_tests : ℕ → Spec → Bool
level_tests n s = option_map_or (λ x. x == n) (total_on s) false

-- a condition of the card is on that indicator
abbrev pub condition_tests : ℕ → Spec → Bool
condition_tests n s = option_map_or (any_tests n) (conditions_on_card s) false

-- the control level or a condition of the card is on that indicator
abbrev pub tests_indicator : ℕ → SpecCard → Bool
tests_indicator n c = level_tests n c.spec || condition_tests n c.spec

-- the place of the first of three that satisfies the test, each of this many columns
abbrev pub place_of : {X : Type 0} → (X → Bool) → ℕ → Three X → ℕ
place_of test size t = if test t.first then 0 else if test t.second then size else size + size

-- some columns from the first on
abbrev pub columns_from : ℕ → ℕ → ColumnFault
columns_from column more = record { column = column; last = column + more }

-- the columns of the condition on an indicator
abbrev pub condition_columns : ℕ → Spec → ColumnFault
condition_columns n s = columns_from (conditions_begin s + option_map_or (place_of (one_tests n) 3) (conditions_on_card s) 6) 2

-- the columns of the control level, if it is that indicator, or else of the condition on it
abbrev pub tested_columns : ℕ → SpecCard → ColumnFault
tested_columns n c = if level_tests n c.spec then columns_from 7 1 else condition_columns n c.spec

-- ---- turning on

-- the indicator there is that one
abbrev pub is_number : ℕ → Option ℕ → Bool
is_number n i = option_map_or (λ x. x == n) i false

-- one of three indicators is that one
abbrev pub any_is : ℕ → Three (Option ℕ) → Bool
any_is n t = is_number n t.first || is_number n t.second || is_number n t.third

-- the I card gives the indicator
abbrev pub input_turns_on : ℕ → InputSpec → Bool
input_turns_on n (input.Type t) = is_number n t.indicator
input_turns_on n (input.And codes) = false
input_turns_on n (input.Field f) = any_is n f.indicators

-- SETOF turns off
abbrev pub turns_off : Option Operation → Bool
turns_off (Some operation.SetOff) = true
turns_off o = false

-- the C card turns the indicator on
abbrev pub result_turns_on : ℕ → CalculationSpec → Bool
result_turns_on n k = not (turns_off k.operation) && any_is n k.resulting_indicators

-- the card turns the indicator on
abbrev pub spec_turns_on : ℕ → Spec → Bool
spec_turns_on n (spec.File f) = is_number n f.overflow
spec_turns_on n (spec.Input i) = input_turns_on n i
spec_turns_on n (spec.Calculation k) = result_turns_on n k
spec_turns_on n _ = false

-- the numbered card turns the indicator on
abbrev pub turns_on : ℕ → SpecCard → Bool
turns_on n c = spec_turns_on n c.spec

-- ---- turning on for others to ask

-- a search has to have an indicator
abbrev pub need_not_be_tested : Option Operation → Bool
need_not_be_tested (Some operation.SetOff) = true
need_not_be_tested (Some operation.LookUp) = true
need_not_be_tested o = false

-- the indicators that a card sets; those of SETOF and LOKUP need not be tested
abbrev pub shown_on : Spec → Option (Three (Option ℕ))
shown_on (spec.Input (input.Field f)) = Some f.indicators
shown_on (spec.Calculation k) = if need_not_be_tested k.operation then None else Some k.resulting_indicators
shown_on s = None

-- a resulting indicator of the card is that one
abbrev pub shows : ℕ → SpecCard → Bool
shows n c = option_map_or (any_is n) (shown_on c.spec) false

-- the first column of resulting indicators
abbrev pub results_begin : Spec → ℕ
results_begin (spec.Calculation k) = 54
results_begin s = 65

-- the columns of a resulting indicator
abbrev pub shown_columns : ℕ → SpecCard → ColumnFault
shown_columns n c = columns_from (results_begin c.spec + option_map_or (place_of (is_number n) 2) (shown_on c.spec) 4) 1

-- ---- the warnings

-- the machine turns on L0 to L9, LR, 1P and MR
abbrev pub is_of_cards : ℕ → Bool
is_of_cards n = nat_le n 99 || (nat_le 112 n && nat_le n 128)

-- W1 at a card
abbrev pub never_on_at : ℕ → SpecCard → Warning
never_on_at n c = record { card = c.number; columns = tested_columns n c; kind = kind.NeverOn n }

-- tested but never turned on: at the first card that tests it
abbrev pub never_on : ℕ → List SpecCard → Option Warning
never_on n cards = if is_of_cards n && not (list_any (turns_on n) cards) then option_map (never_on_at n) (find (tests_indicator n) cards) else None

-- W2 at a card
abbrev pub never_tested_at : ℕ → SpecCard → Warning
never_tested_at n c = record { card = c.number; columns = shown_columns n c; kind = kind.NeverTested n }

-- turned on to be tested, but never tested: at the first card that turns it on
abbrev pub never_tested : ℕ → List SpecCard → Option Warning
never_tested n cards = if nat_le n 99 && not (is_some (find (tests_indicator n) cards)) then option_map (never_tested_at n) (find (shows n) cards) else None

-- ---- levels

-- L1 to L9
abbrev pub is_level : ℕ → Bool
is_level n = nat_le 101 n && nat_le n 109

-- the control level's indicator is that one
abbrev pub is_level_indicator : ℕ → Option ℕ → Bool
is_level_indicator n l = option_map_or (λ x. 100 + x == n) l false

-- the I card has a field of that control level
abbrev pub input_has_level : ℕ → InputSpec → Bool
input_has_level n (input.Type t) = false
input_has_level n (input.And codes) = false
input_has_level n (input.Field f) = is_level_indicator n f.level

-- the card has a field of that control level
abbrev pub spec_has_level : ℕ → Spec → Bool
spec_has_level n (spec.Input i) = input_has_level n i
spec_has_level n s = false

-- the card of a control field of a level
abbrev pub card_has_level : ℕ → SpecCard → Bool
card_has_level n c = spec_has_level n c.spec

-- the warning about a control level that no field has
abbrev pub no_level_at : ℕ → SpecCard → Warning
no_level_at n c = record { card = c.number; columns = tested_columns n c; kind = kind.NoLevel n }

-- a level that is tested, that no card turns on, and that no field has: at the first card that tests it
abbrev pub no_level : ℕ → List SpecCard → Option Warning
no_level n cards = if is_level n && not (list_any (turns_on n) cards) && not (list_any (card_has_level n) cards) then option_map (no_level_at n) (find (tests_indicator n) cards) else None

-- what an indicator is warned of
abbrev pub indicator_warnings : ℕ → List SpecCard → List Warning
indicator_warnings n cards = option_to_list (never_on n cards) ++ option_to_list (never_tested n cards) ++ option_to_list (no_level n cards)

-- what the indicators up to a number are warned of
unfoldable pub warnings_up_to : ℕ → List SpecCard → List Warning
warnings_up_to zero cards = []
warnings_up_to (suc n) cards = warnings_up_to n cards ++ indicator_warnings (suc n) cards
