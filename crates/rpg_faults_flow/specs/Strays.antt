-- F12 of I and O cards: cards without the card that they continue or belong to.
use Rattle.std.specs.Prelude.{◌-◌, List, length, slice_get, Bool, true, false, not, ◌||◌, Option, is_none}
use Rattle.std.specs.Option.{option_and_then, option_map_or}
use Rattle.rpg_cards.specs.Cards.{input_on, output_on}
use Rattle.rpg_cards.specs.Groups.{input_role, open_group, output_role}
use Rattle.rpg_cards.specs.declared.spec_card.SpecCard.{SpecCard}
use Rattle.rpg_sheet_specs.specs.declared.input.InputSpec.{InputSpec}
use Rattle.rpg_sheet_specs.specs.declared.input.InputSpec.TheVariants as input
use Rattle.rpg_sheet_specs.specs.declared.output.OutputSpec.{OutputSpec}
use Rattle.rpg_sheet_specs.specs.declared.output.OutputSpec.TheVariants as output

-- the last of these cards
abbrev pub card_right_before : List SpecCard → Option SpecCard
card_right_before before = slice_get before (length before - 1)

-- ---- I: the codes of an AND card continue those of a type card or an AND card

-- a type card or an AND card
abbrev pub takes_codes : InputSpec → Bool
takes_codes (input.Type t) = true
takes_codes (input.And codes) = true
takes_codes (input.Field f) = false

-- the previous card is a type card or an AND card
abbrev pub follows_codes : List SpecCard → Bool
follows_codes before = option_map_or takes_codes (option_and_then (λ (c : SpecCard). input_on c.spec) (card_right_before before)) false

-- F12 of an I card
abbrev pub is_stray_input : List SpecCard → InputSpec → Bool
is_stray_input before (input.Type t) = false
is_stray_input before (input.And codes) = not (follows_codes before)
is_stray_input before (input.Field f) = is_none (open_group input_role before)

-- ---- O: the conditions of an AND or OR card continue those of a record, AND or OR card

-- a record, AND or OR card
abbrev pub takes_conditions : OutputSpec → Bool
takes_conditions (output.Field f) = false
takes_conditions _ = true

-- the previous card is a record, AND or OR card
abbrev pub follows_conditions : List SpecCard → Bool
follows_conditions before = option_map_or takes_conditions (option_and_then (λ (c : SpecCard). output_on c.spec) (card_right_before before)) false

-- F12 of an O card
abbrev pub is_stray_output : List SpecCard → OutputSpec → Bool
is_stray_output before (output.Record r) = false
is_stray_output before (output.Field f) = is_none (open_group output_role before)
is_stray_output before _ = not (follows_conditions before)

-- F12 of I and O cards
abbrev pub is_stray : List SpecCard → SpecCard → Bool
is_stray before c = option_map_or (is_stray_input before) (input_on c.spec) false || option_map_or (is_stray_output before) (output_on c.spec) false
