-- The line of a record.
use Rattle.std.specs.Prelude.{◌≡◌, ℕ, ◌+◌, ◌==◌, Bool, false, if◌then◌else◌, List, position, slice_index, Option, None, Some, option_map, Ok, Err}
use Rattle.rpg_text.specs.Texts.{trimmed}
use Rattle.rpg_records.specs.Columns.{image}
use Rattle.rpg_records.specs.declared.column.Column.{Column}
use Rattle.rpg_records.specs.declared.translation.Page.{Page}
use Rattle.rpg_records.specs.declared.translation.Page.TheVariants as pages
use Rattle.rpg_record_lines.specs.Numbers.{digits_of_fields}
use Rattle.rpg_record_lines.specs.Outcomes.{TextOrFault, text_and_then, joined_texts}
use Rattle.rpg_records.specs.Types.{card_of_type, first_type, is_card}
use Rattle.rpg_record_lines.specs.declared.fault.RecordFault.{RecordFault}
use Rattle.rpg_record_lines.specs.declared.fault.RecordFault.TheVariants as faults
use Rattle.rpg_records.specs.declared.layout.RecordType.{RecordType}

-- these columns, unless the byte at a place isn't a character
abbrev pub unless_bad : List ℕ → List ℕ → Option ℕ → TextOrFault
unless_bad bytes columns None = Ok columns
unless_bad bytes columns (Some place) = Err (faults.NoCharacter (place + 1) (slice_index bytes place))

-- the characters of a record's columns: 0 is none
abbrev pub record_characters : Page → Bool → List Column → List ℕ → TextOrFault
record_characters page low_blank kinds record_bytes =
    unless_bad record_bytes (image page low_blank kinds record_bytes) (position (λ c. c == 0) (image page low_blank kinds record_bytes))

-- what follows from the type of a record or of a line
abbrev pub type_and_then : Option RecordType → (RecordType → TextOrFault) → TextOrFault
type_and_then None next = Err faults.NoType
type_and_then (Some t) next = next t

-- by these columns a record is of another type, or of none
abbrev pub other_line : RecordType → Option RecordType → RecordFault
other_line t other = faults.OtherLine t.card (option_map card_of_type other)

-- by its columns the line is of another type than the record, and the fault says so
abbrev pub IsOtherLine : RecordType → Option RecordType → RecordFault → Type 0
IsOtherLine t other fault = (is_card t.card other ≡ false) × (fault ≡ other_line t other)

-- columns, followed by the digits of a record, if these columns give the same type again
abbrev pub line_after : List RecordType → List ℕ → RecordType → List ℕ → TextOrFault
line_after types record_bytes t columns =
    if is_card t.card (first_type pages.Ascii false columns types) then joined_texts (Ok columns) (digits_of_fields record_bytes t.numbers.items)
    else Err (other_line t (first_type pages.Ascii false columns types))

-- the line of a record of a type, with the blanks at its end
abbrev pub whole_line_of : Page → Bool → List RecordType → List ℕ → RecordType → TextOrFault
whole_line_of page low_blank types record_bytes t = text_and_then (record_characters page low_blank t.columns.items record_bytes) (line_after types record_bytes t)

-- the line of a record: without the blanks at the end
abbrev pub line_of_record : Page → Bool → List RecordType → List ℕ → TextOrFault
line_of_record page low_blank types record_bytes =
    type_and_then (first_type page low_blank record_bytes types) (λ t. text_and_then (whole_line_of page low_blank types record_bytes t) (λ line. Ok (trimmed line)))
