-- The digits of a record's packed and binary fields, and the bytes of such digits.
use Rattle.std.specs.Prelude.{◌≡◌, ℕ, false, ◌+◌, ◌-◌, ◌∷◌, min, nat_le, nat_lt, not, if◌then◌else◌, List, [], ◌++◌, drop, length, position, replicate, slice_index, slice_range, take, Option, Some, None, Result, Ok, Err}
use Rattle.rpg_text.specs.Texts.{all_blank, is_blank}
use Rattle.rpg_records.specs.Unpacked.{binary_text, bytes_of_binary_text, bytes_of_packed_text, packed_fault, packed_text}
use Rattle.rpg_records.specs.declared.digits.NumberFault.{NumberFault}
use Rattle.rpg_records.specs.declared.digits.NumberFault.TheVariants as numbers
use Rattle.rpg_records.specs.Sizes.{counted, field_digits, field_size}
use Rattle.rpg_record_lines.specs.Outcomes.{TextOrFault, text_and_then, joined_texts, some_or}
use Rattle.rpg_record_lines.specs.declared.fault.FieldBytes.{FieldBytes}
use Rattle.rpg_record_lines.specs.declared.fault.RecordFault.{RecordFault}
use Rattle.rpg_record_lines.specs.declared.fault.RecordFault.TheVariants as faults
use Rattle.rpg_records.specs.declared.layout.NumberField.{NumberField}
use Rattle.rpg_records.specs.declared.layout.NumberForm.{NumberForm}
use Rattle.rpg_records.specs.declared.layout.NumberForm.TheVariants as forms

-- ---- digits of bytes

-- the k digits of bytes, or why they have none
abbrev pub digits_in : NumberForm → ℕ → List ℕ → Result (List ℕ) NumberFault
digits_in forms.Packed k bytes = some_or (packed_fault bytes) (packed_text k bytes)
digits_in forms.Binary k bytes = some_or numbers.TooLarge (binary_text k bytes)

-- the first 15 bytes of a field, and how many it has
abbrev pub field_bytes : List ℕ → FieldBytes
field_bytes bytes = record { bytes = take 15 bytes ++ replicate (15 - length bytes) 0; len = min (length bytes) 15 }

-- digits, or what is wrong with the field of these bytes
abbrev pub field_outcome : NumberField → List ℕ → Result (List ℕ) NumberFault → TextOrFault
field_outcome f bytes (Ok digits) = Ok digits
field_outcome f bytes (Err fault) = Err (faults.BadNumber f.card f.first f.last (field_bytes bytes) fault)

-- the bytes of a record's field
abbrev pub bytes_of_field : NumberField → List ℕ → List ℕ
bytes_of_field f record_bytes = slice_range record_bytes (f.first - 1) f.last

-- the digits of a record's field, which the record must have
abbrev pub field_text : List ℕ → NumberField → TextOrFault
field_text record_bytes f =
    if nat_le f.last (length record_bytes) then field_outcome f (bytes_of_field f record_bytes) (digits_in f.form (field_digits f) (bytes_of_field f record_bytes)) else Err faults.NoType

-- the digits of all fields, in order
abbrev pub digits_of_fields : List ℕ → List NumberField → TextOrFault
digits_of_fields record_bytes [] = Ok []
digits_of_fields record_bytes (f ∷ fs) = joined_texts (field_text record_bytes f) (digits_of_fields record_bytes fs)

-- ---- bytes of digits

-- the k bytes of digits, if they are a number
abbrev pub bytes_of_digits : NumberForm → ℕ → List ℕ → Option (List ℕ)
bytes_of_digits forms.Packed k digits = bytes_of_packed_text k digits
bytes_of_digits forms.Binary k digits = bytes_of_binary_text k digits

-- the same, where blanks alone are no number
abbrev pub bytes_unless_blank : NumberForm → ℕ → List ℕ → Option (List ℕ)
bytes_unless_blank form k digits = if all_blank digits then None else bytes_of_digits form k digits

-- a text in n columns: blanks follow its end
abbrev pub filled : ℕ → List ℕ → List ℕ
filled n text = take n text ++ replicate (n - length text) 32

-- the digits of a field, from a place of a line on
abbrev pub digits_at : List ℕ → ℕ → NumberField → List ℕ
digits_at line place f = filled (field_digits f) (drop place line)

-- what a line has in the field's own columns, which must be blank
abbrev pub covered_by : List ℕ → NumberField → List ℕ
covered_by line f = filled (field_size f) (drop (f.first - 1) line)

-- a record with a field's bytes, or what is wrong with these digits at a place of the line
abbrev pub with_bytes : NumberField → ℕ → List ℕ → List ℕ → Option (List ℕ) → TextOrFault
with_bytes f place digits record_bytes (Some bytes) = Ok ((take (f.first - 1) record_bytes ++ bytes) ++ drop f.last record_bytes)
with_bytes f place digits record_bytes None = Err (faults.BadDigits f.card (counted (place + 1)) (counted (place + field_digits f)) (field_bytes digits))

-- a record with the bytes of digits, at this place of the line
abbrev pub with_digits : NumberField → ℕ → List ℕ → List ℕ → TextOrFault
with_digits f place record_bytes digits = with_bytes f place digits record_bytes (bytes_unless_blank f.form (field_size f) digits)

-- a line has characters in the field's own columns, and the fault says which
abbrev pub IsTaken : List ℕ → NumberField → RecordFault → Type 0
IsTaken line f fault = (all_blank (covered_by line f) ≡ false) × (fault ≡ faults.Taken f.card f.first f.last (field_bytes (covered_by line f)))

-- a record, which must have the field, with the bytes of a line's digits; no character may stand in the field's own columns
abbrev pub with_number : List ℕ → ℕ → List ℕ → NumberField → TextOrFault
with_number line place record_bytes f =
    if nat_lt (length record_bytes) f.last then Err faults.NoType
    else if all_blank (covered_by line f) then with_digits f place record_bytes (digits_at line place f)
    else Err (faults.Taken f.card f.first f.last (field_bytes (covered_by line f)))

-- a record, unless this place after the last digits of a line has a character
abbrev pub unless_left : List ℕ → ℕ → List ℕ → Option ℕ → TextOrFault
unless_left rest place record_bytes None = Ok record_bytes
unless_left rest place record_bytes (Some k) = Err (faults.NoPlace (counted (counted (place + k) + 1)) (slice_index rest k))

-- a record, if its line has blanks alone from this place on
abbrev pub after_digits : List ℕ → ℕ → List ℕ → TextOrFault
after_digits line place record_bytes = unless_left (drop place line) place record_bytes (position (λ c. not (is_blank c)) (drop place line))

-- a record with the bytes of all digits, in sequence from a place of a line to its end
abbrev pub with_numbers : List ℕ → List NumberField → ℕ → List ℕ → TextOrFault
with_numbers line [] place record_bytes = after_digits line place record_bytes
with_numbers line (f ∷ fs) place record_bytes = text_and_then (with_number line place record_bytes f) (with_numbers line fs (counted (place + field_digits f)))
