-- Which type a record is of.
use Rattle.std.specs.Prelude.{ℕ, ◌==◌, ◌&&◌, not, nat_lt, Bool, false, if◌then◌else◌, List, [], ◌∷◌, length, slice_index, Option, Some, None}
use Rattle.std.specs.List.{list_all}
use Rattle.rpg_records.specs.Columns.{column_character}
use Rattle.rpg_records.specs.declared.column.Column.TheVariants as columns
use Rattle.rpg_records.specs.declared.translation.Page.{Page}
use Rattle.rpg_records.specs.declared.layout.Code.{Code}
use Rattle.rpg_records.specs.declared.layout.RecordType.{RecordType}

-- the character at a place of a record, 0 for none
abbrev pub character_at : Page → Bool → List ℕ → ℕ → ℕ
character_at page low_blank record_bytes place =
    if nat_lt place (length record_bytes) then column_character page low_blank columns.Text (slice_index record_bytes place) else 0

-- a code holds if its character is there or, if negated, another one
abbrev pub code_fits_record : Page → Bool → List ℕ → Code → Bool
code_fits_record page low_blank record_bytes code =
    if code.is_negated then not (character_at page low_blank record_bytes code.place == code.character) else character_at page low_blank record_bytes code.place == code.character

-- a record of a type has its length, and all its codes hold
abbrev pub fits_type : Page → Bool → List ℕ → RecordType → Bool
fits_type page low_blank record_bytes t = length t.columns.items == length record_bytes && list_all (code_fits_record page low_blank record_bytes) t.codes.items

-- the first type that a record is of
abbrev pub first_type : Page → Bool → List ℕ → List RecordType → Option RecordType
first_type page low_blank record_bytes [] = None
first_type page low_blank record_bytes (t ∷ ts) = if fits_type page low_blank record_bytes t then Some t else first_type page low_blank record_bytes ts

-- the type begins on that card
abbrev pub is_card : ℕ → Option RecordType → Bool
is_card card None = false
is_card card (Some t) = t.card == card

-- the card that a type begins on
abbrev pub card_of_type : RecordType → ℕ
card_of_type t = t.card
