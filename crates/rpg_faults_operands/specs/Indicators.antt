-- F8: indicators that are not allowed.
use Rattle.std.specs.Prelude.{ℕ, List, Bool, false, not, ◌&&◌, ◌||◌, ◌==◌, nat_le, Option, is_none, is_some}
use Rattle.std.specs.Option.{option_map_or}
use Rattle.rpg_cards.specs.Levels.{has_match_field}
use Rattle.rpg_cards.specs.declared.spec_card.SpecCard.{SpecCard}
use Rattle.rpg_sheet_specs.specs.declared.calculation.CalculationSpec.{CalculationSpec}
use Rattle.rpg_sheet_specs.specs.declared.indicator.ConditionSpec.{ConditionSpec}
use Rattle.rpg_sheet_specs.specs.declared.indicator.Three.{Three}
use Rattle.rpg_sheet_specs.specs.declared.input.InputFieldSpec.{InputFieldSpec}
use Rattle.rpg_sheet_specs.specs.declared.input.InputSpec.{InputSpec}
use Rattle.rpg_sheet_specs.specs.declared.input.InputSpec.TheVariants as input
use Rattle.rpg_sheet_specs.specs.declared.output.OutputSpec.{OutputSpec}
use Rattle.rpg_sheet_specs.specs.declared.output.OutputSpec.TheVariants as output
use Rattle.rpg_sheet_specs.specs.declared.spec.Spec.{Spec}
use Rattle.rpg_sheet_specs.specs.declared.spec.Spec.TheVariants as spec

-- one of three exists and passes
abbrev pub any_of : {X : Type 0} → (X → Bool) → Three (Option X) → Bool
any_of test t = option_map_or test t.first false || option_map_or test t.second false || option_map_or test t.third false

-- a record type has 01 to 99, L1 to L9, LR or H1 to H9
abbrev pub cannot_mark_type : ℕ → Bool
cannot_mark_type n = not (nat_le n 99 || (nat_le 101 n && nat_le n 110) || (nat_le 120 n && nat_le n 128))

-- results and fields set all but L0, 1P and MR
abbrev pub cannot_be_set : ℕ → Bool
cannot_be_set n = (n == 100) || (n == 111) || (n == 129)

-- ---- conditions

-- MR is for sources with match fields
abbrev pub may_name_mr : List SpecCard → Bool
may_name_mr cards = has_match_field cards

-- MR in a source without match fields
abbrev pub is_barred_mr : List SpecCard → ℕ → Bool
is_barred_mr cards n = (n == 129) && not (may_name_mr cards)

-- 1P
abbrev pub is_1p : ℕ → Bool
is_1p n = n == 111

-- conditions of output may name any indicator, and MR only if it is allowed
abbrev pub bad_in_output : List SpecCard → ConditionSpec → Bool
bad_in_output cards c = is_barred_mr cards c.indicator

-- conditions of calculations may name any indicator but 1P, and MR only if it is allowed
abbrev pub bad_in_calculation : List SpecCard → ConditionSpec → Bool
bad_in_calculation cards c = is_1p c.indicator || is_barred_mr cards c.indicator

-- ---- cards

-- a text is only blank or not
abbrev pub bad_on_field : InputFieldSpec → Bool
bad_on_field f = any_of cannot_be_set f.indicators || (is_none f.decimals && (is_some f.indicators.first || is_some f.indicators.second))

-- F8 of an I card
abbrev pub bad_on_input : InputSpec → Bool
bad_on_input (input.Type t) = option_map_or cannot_mark_type t.indicator false
bad_on_input (input.And codes) = false
bad_on_input (input.Field f) = bad_on_field f

-- F8 of a C card
abbrev pub bad_on_calculation : List SpecCard → CalculationSpec → Bool
bad_on_calculation cards k = any_of (bad_in_calculation cards) k.conditions || any_of cannot_be_set k.resulting_indicators

-- F8 of an O card
abbrev pub bad_on_output : List SpecCard → OutputSpec → Bool
bad_on_output cards (output.Record r) = any_of (bad_in_output cards) r.conditions
bad_on_output cards (output.And t) = any_of (bad_in_output cards) t
bad_on_output cards (output.Or t) = any_of (bad_in_output cards) t
bad_on_output cards (output.Field f) = any_of (bad_in_output cards) f.conditions

-- F8 of a card of any sheet
abbrev pub bad_on : List SpecCard → Spec → Bool
bad_on cards (spec.Input i) = bad_on_input i
bad_on cards (spec.Calculation k) = bad_on_calculation cards k
bad_on cards (spec.Output o) = bad_on_output cards o
bad_on cards _ = false

-- F8 of a card
abbrev pub bad_indicator : List SpecCard → SpecCard → Bool
bad_indicator cards c = bad_on cards c.spec
