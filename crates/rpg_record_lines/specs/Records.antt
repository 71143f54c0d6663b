-- The record of a line.
use Rattle.std.specs.Prelude.{ℕ, ◌+◌, ◌-◌, ◌++◌, Bool, false, if◌then◌else◌, List, [], ◌∷◌, length, replicate, take, Option, option_map, Ok, Err}
use Rattle.rpg_text.specs.Texts.{is_character, trimmed}
use Rattle.rpg_records.specs.Columns.{page_byte}
use Rattle.rpg_records.specs.declared.translation.Page.{Page}
use Rattle.rpg_records.specs.declared.translation.Page.TheVariants as pages
use Rattle.rpg_record_lines.specs.Lines.{type_and_then}
use Rattle.rpg_record_lines.specs.Numbers.{with_numbers}
use Rattle.rpg_record_lines.specs.Outcomes.{TextOrFault, text_and_then, joined_texts}
use Rattle.rpg_records.specs.Types.{card_of_type, first_type, is_card}
use Rattle.rpg_record_lines.specs.declared.fault.RecordFault.{RecordFault}
use Rattle.rpg_record_lines.specs.declared.fault.RecordFault.TheVariants as faults
use Rattle.rpg_records.specs.declared.layout.RecordType.{RecordType}

-- the bytes of characters, the first of which is at a place; or the first that isn't a character
abbrev pub bytes_of_characters : Page → ℕ → List ℕ → TextOrFault
bytes_of_characters page place [] = Ok []
bytes_of_characters page place (c ∷ cs) =
    if is_character c then joined_texts (Ok (page_byte page c ∷ [])) (bytes_of_characters page (place + 1) cs) else Err (faults.NoCharacter (place + 1) c)

-- by its bytes a line is of another type, or of none
abbrev pub other_record : RecordType → Option RecordType → RecordFault
other_record t other = faults.OtherRecord t.card (option_map card_of_type other)

-- a record, if by its bytes it is of its line's type
abbrev pub checked_record : Page → Bool → List RecordType → RecordType → List ℕ → TextOrFault
checked_record page low_blank types t record_bytes =
    if is_card t.card (first_type page low_blank record_bytes types) then Ok record_bytes else Err (other_record t (first_type page low_blank record_bytes types))

-- a line with blanks up to the columns of a record
abbrev pub widened : ℕ → List ℕ → List ℕ
widened n line = line ++ replicate (n - length line) 32

-- the record of a line of a type: the bytes of its columns, and of the digits after them
abbrev pub typed_record : Page → Bool → List RecordType → List ℕ → List ℕ → RecordType → TextOrFault
typed_record page low_blank types columns line t =
    text_and_then (bytes_of_characters page 0 columns) (λ r. text_and_then (with_numbers line t.numbers.items (length columns) r) (checked_record page low_blank types t))

-- the record of a line, which has n bytes
abbrev pub record_of_line : Page → Bool → List RecordType → ℕ → List ℕ → TextOrFault
record_of_line page low_blank types n line =
    type_and_then (first_type pages.Ascii false (take n (widened n line)) types) (typed_record page low_blank types (take n (widened n line)) (trimmed (widened n line)))
