-- The format of first values: those of each field, one for each entry, each as long as the field.
use Rattle.std.specs.Prelude.{◌≡◌, ℕ, ◌≤◌, ℤ, List, [], ◌∷◌, length, take, drop, nat_lt, if◌then◌else◌, Option, Some, None, Result, Ok, Err}
use Rattle.std.specs.List.{list_all}
use Rattle.std.specs.Str.{bytes_eq}
use Rattle.rpg_decimal_words.specs.Zoned.{number_in, zoned_text}
use Rattle.rpg_program.specs.declared.form.FieldForm.{FieldForm}
use Rattle.rpg_program.specs.declared.form.Kind.{Kind}
use Rattle.rpg_program.specs.declared.form.Kind.TheVariants as kinds
use Rattle.rpg_program.specs.Values.{Value, Number, Text}
use Rattle.rpg_object_format.specs.declared.fault.Code.{Code}
use Rattle.rpg_object_format.specs.declared.fault.Code.TheVariants.{NotAllowed}
use Rattle.rpg_object_format.specs.declared.fault.Fault.{Fault}
use Rattle.rpg_object_format.specs.Format.{Format, ends_early, ruled, times_with, table}
use Rattle.rpg_program.specs.Kept.{IsValueOf}
use Rattle.rpg_text.specs.Texts.{is_character}

-- the number in a text, if the text is the one that is written for it
abbrev pub as_written : List ℕ → Option ℤ → Result ℤ Code
as_written text None = Err NotAllowed
as_written text (Some n) = if bytes_eq text (zoned_text (length text) n) then Ok n else Err NotAllowed

-- a number as a value
abbrev pub as_value : Result ℤ Code → Result Value Code
as_value (Ok n) = Ok (Number n)
as_value (Err c) = Err c

-- the value of that kind in a text
abbrev pub first_value_in : Kind → List ℕ → Result Value Code
first_value_in kinds.Number text = as_value (as_written text (number_in text))
first_value_in kinds.Text text = if list_all is_character text then Ok (Text text) else Err NotAllowed

-- the first value of an entry, by its kind and length
abbrev pub read_value : Kind → ℕ → List ℕ → Result (Value × List ℕ) Fault
read_value k len bytes =
    if nat_lt (length bytes) len then Err ends_early
    else ruled bytes (drop len bytes) (first_value_in k (take len bytes))

-- a value's characters
abbrev pub value_text : ℕ → Value → List ℕ
value_text len (Number n) = zoned_text len n
value_text len (Text text) = text

-- a value of its kind and length; no number is written as no digits
abbrev pub IsWrittenValue : Kind → ℕ → Value → Type 0
IsWrittenValue kinds.Number len v = (1 ≤ len) × IsValueOf kinds.Number len v
IsWrittenValue kinds.Text len v = IsValueOf kinds.Text len v

-- the value of an entry, as long as its field
unfoldable pub value : Kind → ℕ → Format Value
value k len = record {
  spelling = value_text len;
  Holds = IsWrittenValue k len;
  reading = read_value k len;
}

-- the values of a field's entries
unfoldable pub entries_format : FieldForm → Format (List Value)
entries_format f = table f.entries (value f.kind f.length)

-- ---- all fields

-- the values of the next field, none if there are no more
abbrev pub next_entries : List FieldForm → Format (List Value)
next_entries [] = table 0 (value kinds.Text 1)
next_entries (f ∷ fs) = entries_format f

-- the fields after the next one
abbrev pub later_fields : List FieldForm → List Value → List FieldForm
later_fields [] vs = []
later_fields (f ∷ fs) vs = fs

-- the values of each field
unfoldable pub values_format : List FieldForm → Format (List (List Value))
values_format fs = times_with next_entries later_fields (length fs) fs

-- 1 to 15 digits, or at least one character
pub record HasLength (f : FieldForm) : Type 0 where
  pub some : 1 ≤ f.length
  pub few : f.kind ≡ kinds.Number → f.length ≤ 15
