-- F15: H on an operation that can't half-adjust, and MVR without a remainder from a division.
use Rattle.std.specs.Prelude.{List, Bool, true, false, not, ◌&&◌, ◌||◌, Option}
use Rattle.std.specs.Option.{option_map_or}
use Rattle.rpg_cards.specs.Calculations.{card_ending, last_card, open_calculation_group}
use Rattle.rpg_sheet_specs.specs.Operations.{card_columns}
use Rattle.rpg_cards.specs.Cards.{calculation_on}
use Rattle.rpg_cards.specs.Groups.{joins}
use Rattle.rpg_cards.specs.declared.spec_card.SpecCard.{SpecCard}
use Rattle.rpg_sheet_specs.specs.declared.calculation.CalculationSpec.{CalculationSpec}
use Rattle.rpg_sheet_specs.specs.declared.calculation.Operation.{Operation}
use Rattle.rpg_sheet_specs.specs.declared.calculation.Operation.TheVariants as op

-- DIV
abbrev pub is_division : Operation → Bool
is_division op.Divide = true
is_division o = false

-- MVR
abbrev pub is_remainder : Operation → Bool
is_remainder op.MoveRemainder = true
is_remainder o = false

-- the operation passes a test
abbrev pub operation_passes : (Operation → Bool) → CalculationSpec → Bool
operation_passes test k = option_map_or test k.operation false

-- an operation that may have H
abbrev pub may_half_adjust : Operation → Bool
may_half_adjust o = (card_columns o).may_half_adjust

-- DIV without H
abbrev pub leaves_remainder : CalculationSpec → Bool
leaves_remainder k = operation_passes is_division k && not k.half_adjust

-- the previous card is the last one of a division without H
abbrev pub follows_division : List SpecCard → Bool
follows_division before = option_map_or (λ g. leaves_remainder (last_card g)) (open_calculation_group before) false

-- H on a card before the last, or on an operation that can't half-adjust
abbrev pub rounds_nothing : CalculationSpec → Option CalculationSpec → Bool
rounds_nothing k last = k.half_adjust && not (option_map_or (operation_passes may_half_adjust) last false)

-- MVR in a group of one card follows a division
abbrev pub lacks_remainder : List SpecCard → CalculationSpec → Option CalculationSpec → Bool
lacks_remainder before k last = option_map_or (operation_passes is_remainder) last false && (joins k.control_level || not (follows_division before))

-- H where nothing is rounded, or MVR without a division right before it
abbrev pub rounds_wrongly : List SpecCard → CalculationSpec → Option CalculationSpec → Bool
rounds_wrongly before k last = rounds_nothing k last || lacks_remainder before k last

-- F15 of a card, if it is a C card
abbrev pub bad_rounding : List SpecCard → SpecCard → List SpecCard → Bool
bad_rounding before c after = option_map_or (λ k. rounds_wrongly before k (card_ending c after)) (calculation_on c.spec) false
