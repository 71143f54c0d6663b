-- Records that come back from their lines, and lines that come back from their records.
use Rattle.std.specs.Prelude.{◌≡◌, ℕ, ◌+◌, ◌^◌, ◌<◌, ◌==◌, ℤ, Bool, true, false, IsTrue, IfSome, List, [], ◌∷◌, length, take, All, AllPairs, Contains, slice_index, slice_index_or, sum_by, Some, Ok, ⊤}
use Rattle.std.specs.List.{list_any}
use Rattle.rpg_text.specs.Texts.{is_between, trimmed}
use Rattle.rpg_records.specs.Columns.{is_number_column, is_written_again, last_place_character, page_byte}
use Rattle.rpg_records.specs.Packed.{has_written_sign}
use Rattle.rpg_records.specs.Sizes.{field_digits}
use Rattle.rpg_records.specs.declared.column.Column.{Column}
use Rattle.rpg_records.specs.declared.column.Column.TheVariants as columns
use Rattle.rpg_records.specs.declared.layout.NumberField.{NumberField}
use Rattle.rpg_records.specs.declared.layout.NumberForm.{NumberForm}
use Rattle.rpg_records.specs.declared.layout.NumberForm.TheVariants as forms
use Rattle.rpg_records.specs.declared.layout.RecordType.{RecordType}
use Rattle.rpg_records.specs.declared.translation.Page.{Page}
use Rattle.rpg_records.specs.declared.translation.Page.TheVariants as pages
use Rattle.rpg_record_lines.specs.Lines.{line_of_record}
use Rattle.rpg_record_lines.specs.Numbers.{bytes_of_field, digits_at}
use Rattle.rpg_record_lines.specs.Records.{record_of_line, widened}
use Rattle.rpg_records.specs.Types.{first_type}
use Rattle.rpg_records.specs.Unpacked.{number_text}

-- a field has this column, counted from 0
abbrev pub has_column : ℕ → NumberField → Bool
has_column p f = is_between f.first f.last (p + 1)

-- a type whose packed and binary columns are those of its fields, and whose lines have fewer than 2 ^ 64 columns
pub record IsLaidOut (t : RecordType) : Type 0 where
  pub columns : (p : ℕ) → p < length t.columns.items → is_number_column (slice_index_or t.columns.items p columns.Text) ≡ list_any (has_column p) t.numbers.items
  pub narrow : length t.columns.items + sum_by field_digits t.numbers.items < 2 ^ 64

-- such types, each on a card of its own
pub record AreLaidOut (types : List RecordType) : Type 0 where
  pub each : All IsLaidOut types
  pub own_cards : (t u : RecordType) → Contains types t → Contains types u → t.card ≡ u.card → t ≡ u

-- a field's bytes are written again for its digits: of a packed one, if its sign is F, or D below zero
abbrev pub is_number_again : NumberForm → List ℕ → Bool
is_number_again forms.Packed bytes = has_written_sign bytes
is_number_again forms.Binary bytes = true

-- all bytes of a record of a type are written again for the characters and the digits of its line
pub record IsWrittenAgain (page : Page) (t : RecordType) (r : List ℕ) : Type 0 where
  pub characters : (p : ℕ) → p < length r → IsTrue (is_written_again page (slice_index_or t.columns.items p columns.Text) (slice_index r p))
  pub numbers : All (λ f. IsTrue (is_number_again f.form (bytes_of_field f r))) t.numbers.items

-- The line of a record becomes that record again, if all its bytes are written again.
abbrev pub RecordsComeBack : Type 0
RecordsComeBack =
    (page : Page) (types : List RecordType) (r line : List ℕ) → AreLaidOut types → All (λ b. b < 256) r → IfSome (first_type page false r types) (λ t. IsWrittenAgain page t r)
    → line_of_record page false types r ≡ Ok line → record_of_line page false types (length r) line ≡ Ok r

-- ---- lines

-- no two fields share a column
abbrev pub AreApart : List NumberField → Type 0
AreApart fs = AllPairs (λ f g. (p : ℕ) → has_column p f ≡ true → has_column p g ≡ false) fs

-- the digits of a number as they are written: without blanks, and with a letter only below zero
pub record AreDigits (digits : List ℕ) : Type 0 where
  pub number : ℤ
  pub written : number_text (length digits) number ≡ Some digits

-- so are those of all fields, from a place of a line on
abbrev pub HaveDigits : List ℕ → ℕ → List NumberField → Type 0
HaveDigits line place [] = ⊤
HaveDigits line place (f ∷ fs) = AreDigits (digits_at line place f) × HaveDigits line (place + field_digits f) fs

-- the byte of a character is read as that character: not in a last place, where it is read as another digit, as that of S is
abbrev pub is_read_again : Page → Column → ℕ → Bool
is_read_again page columns.Text c = true
is_read_again page columns.LastPlace c = last_place_character page (page_byte page c) == c
is_read_again page columns.Number c = true
is_read_again page columns.Unnamed c = true

-- all characters and digits of a line of a type, no two fields of which share a column, are read again
pub record IsReadAgain (page : Page) (t : RecordType) (line : List ℕ) : Type 0 where
  pub apart : AreApart t.numbers.items
  pub characters : (p : ℕ) → p < length t.columns.items → IsTrue (is_read_again page (slice_index_or t.columns.items p columns.Text) (slice_index_or line p 32))
  pub digits : HaveDigits (trimmed line) (length t.columns.items) t.numbers.items

-- The record of a line becomes that line again, without the blanks at its end, if all its characters and digits are read again.
abbrev pub LinesComeBack : Type 0
LinesComeBack =
    (page : Page) (types : List RecordType) (n : ℕ) (line r : List ℕ) → AreLaidOut types → IfSome (first_type pages.Ascii false (take n (widened n line)) types) (λ t. IsReadAgain page t line)
    → record_of_line page false types n line ≡ Ok r → line_of_record page false types r ≡ Ok (trimmed line)
