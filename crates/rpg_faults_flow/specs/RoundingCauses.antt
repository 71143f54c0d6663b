-- F15: H where nothing is rounded, and MVR without a division.
use Rattle.std.specs.Prelude.{List, Bool, true, false, Option, None, Some, option_and_then, if◌then◌else◌}
use Rattle.std.specs.Option.{option_map_or, option_or}
use Rattle.rpg_cards.specs.Calculations.{card_ending}
use Rattle.rpg_cards.specs.Cards.{calculation_on}
use Rattle.rpg_cards.specs.Groups.{joins}
use Rattle.rpg_cards.specs.declared.spec_card.SpecCard.{SpecCard}
use Rattle.rpg_faults_flow.specs.declared.rounding.RoundingCause.{RoundingCause}
use Rattle.rpg_faults_flow.specs.declared.rounding.RoundingCause.TheVariants.{LastCardAlone, NoDivision, NoOperation, NotRounded, SeveralCards}
use Rattle.rpg_faults_flow.specs.Rounding.{follows_division, is_remainder, may_half_adjust, operation_passes}
use Rattle.rpg_sheet_specs.specs.declared.calculation.CalculationSpec.{CalculationSpec}
use Rattle.rpg_sheet_specs.specs.declared.column_range.ColumnRange.{ColumnRange}
use Rattle.rpg_sheet_specs.specs.declared.column_range.ColumnRange.TheVariants as range
use Rattle.rpg_sheet_specs.specs.declared.calculation.Operation.{Operation}

-- H with an operation that isn't rounded, or with none
abbrev pub of_operation : Option Operation → Option RoundingCause
of_operation None = Some NoOperation
of_operation (Some o) = if may_half_adjust o then None else Some NotRounded

-- H on the last card of a group, or on a card before it
abbrev pub of_last : Option CalculationSpec → Option RoundingCause
of_last None = Some LastCardAlone
of_last (Some last) = of_operation last.operation

-- H where nothing is rounded
abbrev pub of_half_adjust : CalculationSpec → Option CalculationSpec → Option RoundingCause
of_half_adjust k last = if k.half_adjust then of_last last else None

-- MVR in a group of several cards, or if no division without H comes right before
abbrev pub unless_after_division : Bool → Bool → Option RoundingCause
unless_after_division true following = Some SeveralCards
unless_after_division false following = if following then None else Some NoDivision

-- MVR that has no remainder
abbrev pub of_remainder : List SpecCard → CalculationSpec → Option CalculationSpec → Option RoundingCause
of_remainder before k last =
    if option_map_or (operation_passes is_remainder) last false
    then unless_after_division (joins k.control_level) (follows_division before) else None

-- F15 of a calculation card
abbrev pub of_calculation : List SpecCard → CalculationSpec → Option CalculationSpec → Option RoundingCause
of_calculation before k last = option_or (of_half_adjust k last) (of_remainder before k last)

-- F15 of a card
abbrev pub rounding_cause : List SpecCard → SpecCard → List SpecCard → Option RoundingCause
rounding_cause before c after = option_and_then (λ k. of_calculation before k (card_ending c after)) (calculation_on c.spec)

-- what a cause is about: H, or the operation that requires a division before it
abbrev pub rounding_range : RoundingCause → ColumnRange
rounding_range SeveralCards = range.Operation
rounding_range NoDivision = range.Operation
rounding_range _ = range.HalfAdjust
