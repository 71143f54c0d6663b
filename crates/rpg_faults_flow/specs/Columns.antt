-- F9 of calculation cards: columns that are missing or not allowed (except the sequence of what LOKUP searches, which needs forms).
use Rattle.std.specs.Prelude.{ℕ, ◌==◌, nat_lt, List, Bool, true, false, not, ◌&&◌, ◌||◌, Option, is_some, is_none}
use Rattle.std.specs.Option.{option_map, option_map_or}
use Rattle.rpg_cards.specs.Calculations.{CalculationGroup, depends, continues, group_end, open_calculation_group}
use Rattle.rpg_cards.specs.Keys.{plain_name}
use Rattle.rpg_sheet_specs.specs.Operations.{card_columns}
use Rattle.rpg_sheet_specs.specs.declared.operations.Column.{Column}
use Rattle.rpg_sheet_specs.specs.declared.operations.Column.TheVariants.{Blank, May, Must}
use Rattle.rpg_sheet_specs.specs.declared.operations.Content.{Content}
use Rattle.rpg_sheet_specs.specs.declared.operations.Content.TheVariants as content
use Rattle.rpg_sheet_specs.specs.declared.operations.Shown.{Shown}
use Rattle.rpg_sheet_specs.specs.declared.operations.Shown.TheVariants as shown
use Rattle.rpg_cards.specs.Cards.{calculation_on}
use Rattle.rpg_cards.specs.Groups.{joins}
use Rattle.rpg_cards.specs.declared.spec_card.SpecCard.{SpecCard}
use Rattle.rpg_sheet_specs.specs.Three.{filled_count}
use Rattle.rpg_sheet_specs.specs.declared.calculation.CalculationSpec.{CalculationSpec}
use Rattle.rpg_sheet_specs.specs.declared.calculation.Operation.{Operation}
use Rattle.rpg_sheet_specs.specs.declared.indicator.Three.{Three}
use Rattle.rpg_sheet_specs.specs.declared.literal.Factor.{Factor}
use Rattle.rpg_sheet_specs.specs.declared.literal.Factor.TheVariants as factor

-- ---- what the operation has, on the last card of its group

-- labels and subroutines are plain names
abbrev pub is_for_name : Content → Bool
is_for_name content.Label = true
is_for_name content.Subroutine = true
is_for_name _ = false

-- a label or a subroutine that isn't a plain name
abbrev pub is_unfit : Content → Factor → Bool
is_unfit c f = is_for_name c && is_none (plain_name f)

-- a column is filled but must be blank, blank but must be filled, or not a plain name where a label goes
abbrev pub misses : Column → Option Factor → Bool
misses Blank f = is_some f
misses (May c) f = option_map_or (is_unfit c) f false
misses (Must c) f = option_map_or (is_unfit c) f true

-- high, low, equal
abbrev pub bad_shown : Shown → Three (Option ℕ) → Bool
bad_shown shown.Unused t = nat_lt 0 (filled_count t)
bad_shown shown.Any t = false
bad_shown shown.Some t = filled_count t == 0
bad_shown shown.Search t = filled_count t == 0 || (is_some t.first && is_some t.second)

-- the operation's columns: factor 1, factor 2, result field or resulting indicators are missing or not allowed
abbrev pub bad_operation : CalculationSpec → Operation → Bool
bad_operation k o =
    misses (card_columns o).factor_1 k.factor_1
    || (misses (card_columns o).factor_2 k.factor_2
    || (misses (card_columns o).result_field (option_map factor.Entry k.result_field)
    || bad_shown (card_columns o).indicators k.resulting_indicators))

-- ---- a group's cards

-- a card before the last has conditions and nothing else
abbrev pub has_more : CalculationSpec → Bool
has_more k = is_some k.operation || is_some k.factor_1 || is_some k.factor_2 || is_some k.result_field || is_some k.length || nat_lt 0 (filled_count k.resulting_indicators)

-- TAG, BEGSR and ENDSR have no conditions
abbrev pub may_depend : CalculationSpec → Bool
may_depend last = option_map_or (λ o. (card_columns o).may_depend) last.operation true

-- a card of several has no conditions, or a card has some although the group's operation allows none
abbrev pub bad_conditions : Option CalculationGroup → CalculationSpec → List SpecCard → Bool
bad_conditions group k after = ((continues after || (joins k.control_level && is_some group)) && not (depends k)) || (depends k && not (may_depend (group_end k after)))

-- the last card of a group has no operation, or an operation with bad columns
abbrev pub bad_last : CalculationSpec → Bool
bad_last k = option_map_or (bad_operation k) k.operation true

-- a card before the last has more than conditions, or the last card is wrong
abbrev pub bad_by_end : Bool → CalculationSpec → Bool
bad_by_end true k = has_more k
bad_by_end false k = bad_last k

-- F9 of a calculation card, with the group that is open before it
abbrev pub bad_calculation : Option CalculationGroup → CalculationSpec → List SpecCard → Bool
bad_calculation group k after = bad_conditions group k after || ((is_some k.length && is_none k.result_field) || bad_by_end (continues after) k)

-- F9 of a card, if it is a C card
abbrev pub bad_calculation_columns : List SpecCard → SpecCard → List SpecCard → Bool
bad_calculation_columns before c after = option_map_or (λ k. bad_calculation (open_calculation_group before) k after) (calculation_on c.spec) false
