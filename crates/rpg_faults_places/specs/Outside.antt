-- F16: columns outside the record, an end outside the line, a skip past the page, and fields that are wider than the places up to their end.
use Rattle.std.specs.Prelude.{◌≡◌, ℕ, ◌==◌, nat_lt, List, Bool, false, ◌||◌, Option, None, Some, option_and_then, if◌then◌else◌}
use Rattle.std.specs.Option.{option_map, option_map_or, option_or}
use Rattle.rpg_cards.specs.Cards.{input_on, output_field_on, output_record_on}
use Rattle.rpg_cards.specs.Files.{file_by, page_of}
use Rattle.rpg_cards.specs.Groups.{open_file, output_role}
use Rattle.rpg_cards.specs.declared.files.FileUse.TheVariants.{Printer}
use Rattle.rpg_cards.specs.declared.spec_card.SpecCard.{SpecCard}
use Rattle.rpg_faults_places.specs.CardFiles.{card_file}
use Rattle.rpg_faults_limits.specs.FileCauses.{file_of_line, serves}
use Rattle.rpg_faults_limits.specs.declared.files.FileOnCard.{FileOnCard}
use Rattle.rpg_faults_places.specs.declared.outside.PlaceCause.{PlaceCause}
use Rattle.rpg_faults_places.specs.declared.outside.PlaceCause.TheVariants.{NoColumn, NoEnd, NoPosition, PastLine, PastRecord, PositionPast, SkipPast, TurnedRound, Wider}
use Rattle.rpg_faults_places.specs.Places.{outside_line, outside_on_input, outside_page, own_file}
use Rattle.rpg_faults_operands.specs.Editing.{width}
use Rattle.rpg_sheet_specs.specs.declared.column_range.ColumnRange.{ColumnRange}
use Rattle.rpg_sheet_specs.specs.declared.column_range.ColumnRange.TheVariants as range
use Rattle.rpg_sheet_specs.specs.declared.file.FileSpec.{FileSpec}
use Rattle.rpg_sheet_specs.specs.declared.indicator.Three.{Three}
use Rattle.rpg_sheet_specs.specs.declared.input.InputFieldSpec.{InputFieldSpec}
use Rattle.rpg_sheet_specs.specs.declared.input.InputSpec.{InputSpec}
use Rattle.rpg_sheet_specs.specs.declared.input.InputSpec.TheVariants as input
use Rattle.rpg_sheet_specs.specs.declared.input.RecordCode.{RecordCode}
use Rattle.rpg_sheet_specs.specs.declared.output.Movement.{Movement}
use Rattle.rpg_sheet_specs.specs.declared.output.OutputField.{OutputField}

-- the file is that one, as far as its length goes
abbrev pub SameLength : Option FileOnCard → Option FileSpec → Type 0
SameLength file known = option_map (λ (f : FileOnCard). f.record_length) file ≡ option_map (λ (f : FileSpec). f.record_length) known

-- ---- of a record type, and of an input field

-- the file, if the column is past its records
abbrev pub if_past : ℕ → FileOnCard → Option FileOnCard
if_past column f = if nat_lt f.record_length column then Some f else None

-- that file, if it is known
abbrev pub file_passed : ℕ → Option FileOnCard → Option FileOnCard
file_passed column file = option_and_then (if_past column) file

-- of a code: columns of a record are counted from 1
abbrev pub of_code : Option FileOnCard → ColumnRange → RecordCode → Option PlaceCause
of_code file at c = if c.position == 0 then Some (NoPosition at) else option_map (PositionPast at c.position) (file_passed c.position file)

-- the first of three codes that is outside
abbrev pub of_codes : Option FileOnCard → Three (Option RecordCode) → Option PlaceCause
of_codes file t =
    option_or (option_and_then (of_code file range.FirstCode) t.first)
    (option_or (option_and_then (of_code file range.SecondCode) t.second)
    (option_and_then (of_code file range.ThirdCode) t.third))

-- of a field: columns from 0 or to 0, reversed, or past the record
abbrev pub of_field : Option FileOnCard → InputFieldSpec → Option PlaceCause
of_field file f =
    if f.from == 0 then Some (NoColumn range.FirstColumn)
    else if f.to == 0 then Some (NoColumn range.LastColumn)
    else if nat_lt f.to f.from then Some (TurnedRound f.from f.to)
    else option_map (PastRecord f.from f.to) (file_passed f.to file)

-- of an I card, whose file that is
abbrev pub of_input : Option FileOnCard → InputSpec → Option PlaceCause
of_input file (input.Type t) = of_codes file t.codes
of_input file (input.And codes) = of_codes file codes
of_input file (input.Field f) = of_field file f

-- ---- of an output field

-- more places than there are up to the end
abbrev pub if_wider : ℕ → ℕ → Option PlaceCause
if_wider end n = if nat_lt end n then Some (Wider n end) else None

-- of an output field, whose line's file that is
abbrev pub of_output : List SpecCard → Option FileOnCard → OutputField → Option PlaceCause
of_output cards file f =
    if f.end == 0 then Some NoEnd
    else option_or (option_map (PastLine f.end) (file_passed f.end file)) (option_and_then (if_wider f.end) (width cards f))

-- ---- of a line

-- a skip past the lines of the page
abbrev pub of_skip : ℕ → ColumnRange → ℕ → Option PlaceCause
of_skip lines at line = if nat_lt lines line then Some (SkipPast at line lines) else None

-- the first of both skips that is
abbrev pub of_movement : ℕ → Movement → Option PlaceCause
of_movement lines m = option_or (option_and_then (of_skip lines range.SkipBefore) m.skip_before) (option_and_then (of_skip lines range.SkipAfter) m.skip_after)

-- of a line of this file
abbrev pub of_line : List SpecCard → Option FileOnCard → Movement → Option PlaceCause
of_line cards file m = option_and_then (λ f. if serves Printer f then of_movement (page_of cards).lines m else None) file

-- ---- of a card

-- F16 of a card's own columns
unfoldable pub outside : List SpecCard → List SpecCard → SpecCard → Option PlaceCause
outside cards before c =
    option_or (option_and_then (of_input (card_file cards before c)) (input_on c.spec))
    (option_or (option_and_then (of_output cards (card_file cards before c)) (output_field_on c.spec))
    (option_and_then (λ r. of_line cards (file_of_line cards before r.file) r.movement) (output_record_on c.spec)))

-- the rule of a card's own columns
abbrev pub is_outside : List SpecCard → List SpecCard → SpecCard → Bool
is_outside cards before c =
    option_map_or (λ i. outside_on_input (file_by (own_file before i) cards) i) (input_on c.spec) false
    || option_map_or (outside_line cards (file_by (open_file output_role before) cards)) (output_field_on c.spec) false
    || option_map_or (λ r. outside_page cards (file_by (option_or r.file (open_file output_role before)) cards) r.movement) (output_record_on c.spec) false

-- the columns that a cause is about
abbrev pub place_range : PlaceCause → ColumnRange
place_range (NoPosition at) = at
place_range (PositionPast at position file) = at
place_range (NoColumn at) = at
place_range (TurnedRound from to) = range.LastColumn
place_range (PastRecord from to file) = range.LastColumn
place_range NoEnd = range.EndPosition
place_range (PastLine end file) = range.EndPosition
place_range (Wider places end) = range.EndPosition
place_range (SkipPast at line lines) = at
