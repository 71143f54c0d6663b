-- F12 of I and O cards: what a card needs before it.
use Rattle.std.specs.Prelude.{ℕ, List, Bool, Option, None, Some, is_some, option_and_then, if◌then◌else◌}
use Rattle.std.specs.Option.{option_map, option_or}
use Rattle.rpg_cards.specs.Cards.{input_on, output_on}
use Rattle.rpg_cards.specs.Groups.{input_role, open_group, output_role}
use Rattle.rpg_cards.specs.declared.spec_card.SpecCard.{SpecCard}
use Rattle.rpg_causes_flow.specs.declared.strays.StrayCause.{StrayCause}
use Rattle.rpg_causes_flow.specs.declared.strays.StrayCause.TheVariants.{NoLine, NoType, OtherThanLine, OtherThanType}
use Rattle.rpg_faults_flow.specs.Strays.{card_right_before, follows_codes, follows_conditions}
use Rattle.rpg_sheet_specs.specs.declared.column_range.ColumnRange.{ColumnRange}
use Rattle.rpg_sheet_specs.specs.declared.column_range.ColumnRange.TheVariants as range
use Rattle.rpg_sheet_specs.specs.declared.input.InputSpec.{InputSpec}
use Rattle.rpg_sheet_specs.specs.declared.input.InputSpec.TheVariants as input
use Rattle.rpg_sheet_specs.specs.declared.output.OutputSpec.{OutputSpec}
use Rattle.rpg_sheet_specs.specs.declared.output.OutputSpec.TheVariants as output

-- the number of the card right before, if there is one
abbrev pub card_number_before : List SpecCard → Option ℕ
card_number_before before = option_map (λ (c : SpecCard). c.number) (card_right_before before)

-- an AND card that continues no type, or a field if none is open
abbrev pub input_stray_cause : Bool → List SpecCard → InputSpec → Option StrayCause
input_stray_cause is_open before (input.Type t) = None
input_stray_cause is_open before (input.And codes) = if follows_codes before then None else Some (OtherThanType (card_number_before before))
input_stray_cause is_open before (input.Field f) = if is_open then None else Some NoType

-- an AND or OR card that continues no line
abbrev pub unless_after_conditions : List SpecCard → Option StrayCause
unless_after_conditions before = if follows_conditions before then None else Some (OtherThanLine (card_number_before before))

-- such a card, or a field if no line is open
abbrev pub output_stray_cause : Bool → List SpecCard → OutputSpec → Option StrayCause
output_stray_cause is_open before (output.Record r) = None
output_stray_cause is_open before (output.Field f) = if is_open then None else Some NoLine
output_stray_cause is_open before _ = unless_after_conditions before

-- F12 of a card
abbrev pub stray_cause : List SpecCard → SpecCard → Option StrayCause
stray_cause before c =
    option_or (option_and_then (input_stray_cause (is_some (open_group input_role before)) before) (input_on c.spec))
    (option_and_then (output_stray_cause (is_some (open_group output_role before)) before) (output_on c.spec))

-- the name of the field that belongs to no type or line; none for the card as a whole
abbrev pub stray_range : StrayCause → Option ColumnRange
stray_range NoType = Some range.InputName
stray_range NoLine = Some range.OutputName
stray_range _ = None
