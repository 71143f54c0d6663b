-- The file that is meant.
use Rattle.std.specs.Prelude.{ℕ, List, Bool, ◌&&◌, ◌||◌, codes, Option, Some, None, Result, Ok, Err, if◌then◌else◌}
use Rattle.std.specs.Str.{bytes_eq}
use Rattle.rpg_sheet_specs.specs.Columns.{cols}
use Rattle.rpg_sheet_specs.specs.Tables.{file}
use Rattle.rpg_sheet_specs.specs.declared.column.ColumnFault.{ColumnFault}
use Rattle.rpg_sheet_specs.specs.declared.file.FileSpec.{FileSpec}
use Rattle.rpg_text.specs.Texts.{is_between, trimmed}
use Rattle.rpg_record_decks.specs.Edits.{number_columns, with_columns}
use Rattle.rpg_record_decks.specs.declared.fault.CardFault.{CardFault}
use Rattle.rpg_record_decks.specs.declared.fault.CardFault.TheVariants as faults

-- the name of a file on an F or an I card
abbrev pub file_name : List ℕ → List ℕ
file_name card = trimmed (cols 7 14 card)

-- the primary file, or the one of this name
abbrev pub has_name : Option (List ℕ) → List ℕ → Bool
has_name None card = bytes_eq (cols 16 16 card) (codes "P")
has_name (Some name) card = bytes_eq (file_name card) name

-- the card of a file that is read: input, update or combined
abbrev pub is_read : List ℕ → Bool
is_read card = bytes_eq (cols 15 15 card) (codes "I") || bytes_eq (cols 15 15 card) (codes "U") || bytes_eq (cols 15 15 card) (codes "C")

-- the card of the input file to use
abbrev pub is_meant : Option (List ℕ) → List ℕ → Bool
is_meant name card = bytes_eq (cols 6 6 card) (codes "F") && is_read card && has_name name card

-- a file's card, where each file that is read is an input file
abbrev pub as_input : List ℕ → List ℕ
as_input card = if is_read card then with_columns 15 (codes "I") card else card

-- columns that rpg2 rejects
abbrev pub or_columns : {T : Type 0} → Result T ColumnFault → Result T CardFault
or_columns (Ok x) = Ok x
or_columns (Err fault) = Err (faults.Columns fault.column fault.last)

-- a card with another length of the records, if there is one
abbrev pub with_length : Option ℕ → List ℕ → List ℕ
with_length None card = card
with_length (Some n) card = with_columns 24 (number_columns n) card

-- the length of a file's records: 1 to 9,999
abbrev pub record_length : Result FileSpec CardFault → Result ℕ CardFault
record_length (Ok spec) = if is_between 1 9999 spec.record_length then Ok spec.record_length else Err faults.Length
record_length (Err fault) = Err fault

-- the length of the records by the file's card, or by the arguments
abbrev pub length_by : Option ℕ → List ℕ → Result ℕ CardFault
length_by given card = record_length (or_columns (file.reading (with_length given (as_input card))))
