-- What a converter is made for.
use Rattle.std.specs.Prelude.{ℕ, Bool, false, List, Option}
use Rattle.rpg_records.specs.Translations.{is_low_blank, page_of}
use Rattle.rpg_records.specs.declared.translation.Page.{Page}
use Rattle.rpg_records.specs.declared.translation.Page.TheVariants as pages
use Rattle.rpg_record_lines.specs.Lines.{record_characters, line_of_record, whole_line_of}
use Rattle.rpg_record_lines.specs.Outcomes.{TextOrFault}
use Rattle.rpg_record_lines.specs.Records.{checked_record, record_of_line, typed_record}
use Rattle.rpg_records.specs.Types.{first_type}
use Rattle.rpg_records.specs.declared.layout.RecordType.{RecordType}
use Rattle.rpg_record_lines.specs.declared.line.Converter.{Converter}

-- the record types of a converter
abbrev pub converter_types : Converter → List RecordType
converter_types c = c.layout.now.types.items

-- the record length of a converter
abbrev pub converter_length : Converter → ℕ
converter_length c = c.layout.now.length

-- the code page of its records
abbrev pub page_of_records : Converter → Page
page_of_records c = page_of c.records

-- whether the byte 0 is a blank
abbrev pub is_low_blank_of : Converter → Bool
is_low_blank_of c = is_low_blank c.records

-- the type that a record is of
abbrev pub record_type_of : Converter → List ℕ → Option RecordType
record_type_of c r = first_type (page_of_records c) (is_low_blank_of c) r (converter_types c)

-- the type that columns are of
abbrev pub type_again : Converter → List ℕ → Option RecordType
type_again c columns = first_type pages.Ascii false columns (converter_types c)

-- ---- what it makes

-- the characters of a record of a type
abbrev pub characters_by : Converter → RecordType → List ℕ → TextOrFault
characters_by c t = record_characters (page_of_records c) (is_low_blank_of c) t.columns.items

-- the line of a record of a type
abbrev pub whole_line_by : Converter → RecordType → List ℕ → TextOrFault
whole_line_by c t r = whole_line_of (page_of_records c) (is_low_blank_of c) (converter_types c) r t

-- the line of a record
abbrev pub line_by : Converter → List ℕ → TextOrFault
line_by c = line_of_record (page_of_records c) (is_low_blank_of c) (converter_types c)

-- a record, if by its bytes it is of its line's type
abbrev pub checked_by : Converter → RecordType → List ℕ → TextOrFault
checked_by c = checked_record (page_of_records c) (is_low_blank_of c) (converter_types c)

-- the record of a line of a type
abbrev pub typed_by : Converter → List ℕ → List ℕ → RecordType → TextOrFault
typed_by c = typed_record (page_of_records c) (is_low_blank_of c) (converter_types c)

-- the record of a line
abbrev pub record_by : Converter → List ℕ → TextOrFault
record_by c = record_of_line (page_of_records c) (is_low_blank_of c) (converter_types c) (converter_length c)
