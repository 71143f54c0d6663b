-- W3: which fields of a line lie over each other.
use Rattle.std.specs.Prelude.{ℕ, ◌+◌, ◌-◌, List, [], ◌∷◌, ◌++◌, Bool, ◌&&◌, nat_le, Option, None, Some, is_none, is_some, find, if◌then◌else◌}
use Rattle.std.specs.Option.{option_and_then, option_map}
use Rattle.rpg_cards.specs.Cards.{output_field_on, output_record_on}
use Rattle.rpg_cards.specs.declared.spec_card.SpecCard.{SpecCard}
use Rattle.rpg_faults_operands.specs.Editing.{width}
use Rattle.rpg_sheet_specs.specs.declared.column.ColumnFault.{ColumnFault}
use Rattle.rpg_sheet_specs.specs.declared.output.OutputField.{OutputField}
use Rattle.rpg_warnings_lines.specs.declared.overlaps.Placed.{Placed}
use Rattle.rpg_warnings_lines.specs.declared.warning.Warning.{Warning}
use Rattle.rpg_warnings_lines.specs.declared.warning.WarningKind.TheVariants as kind

-- a field with conditions may overlap another
abbrev pub is_always_out : OutputField → Bool
is_always_out f = is_none f.conditions.first && is_none f.conditions.second && is_none f.conditions.third

-- an output field with its columns in the line
abbrev pub placed_with : SpecCard → OutputField → ℕ → Placed
placed_with c f w = record { card = c.number; first = (f.end + 1) - w; last = f.end }

-- the same, if the field is always written
abbrev pub placed_by : List SpecCard → SpecCard → OutputField → Option Placed
placed_by cards c f = if is_always_out f then option_map (placed_with c f) (width cards f) else None

-- the places that a card's field has in each line
unfoldable pub field_places_on : List SpecCard → SpecCard → Option Placed
field_places_on cards c = option_and_then (placed_by cards c) (output_field_on c.spec)

-- two fields share a column
unfoldable pub meet : Placed → Placed → Bool
meet a b = nat_le a.first b.last && nat_le b.first a.last

-- the columns of the end position
abbrev pub end_columns : ColumnFault
end_columns = record { column = 40; last = 43 }

-- a field over another one
abbrev pub warning_over : Placed → Placed → Warning
warning_over field below = record { card = field.card; columns = end_columns; kind = kind.Overlap field.first field.last below.card }

-- the warning, if there is one
abbrev pub warned_over : Placed → Option Placed → List Warning
warned_over field None = []
warned_over field (Some below) = warning_over field below ∷ []

-- a field that lies over one of these
abbrev pub warned : List Placed → Placed → List Warning
warned placed field = warned_over field (find (meet field) placed)

-- a line begins with no field
abbrev pub unless_line_begins : SpecCard → List Placed → List Placed
unless_line_begins c placed = if is_some (output_record_on c.spec) then [] else placed

-- the warning about a card's field, if it has one
abbrev pub warned_on : List Placed → Option Placed → List Warning
warned_on placed None = []
warned_on placed (Some field) = warned placed field

-- the fields so far, with a card's
abbrev pub noted_on : List Placed → Option Placed → List Placed
noted_on placed None = placed
noted_on placed (Some field) = placed ++ field ∷ []

-- the overlapping fields on these cards, given the fields of the line so far
abbrev pub overlaps_from : List SpecCard → List Placed → List SpecCard → List Warning
overlaps_from source placed [] = []
overlaps_from source placed (c ∷ cards) =
    warned_on (unless_line_begins c placed) (field_places_on source c) ++ overlaps_from source (noted_on (unless_line_begins c placed) (field_places_on source c)) cards
