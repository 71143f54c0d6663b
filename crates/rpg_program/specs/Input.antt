-- Record types, and what their input fields do: columns of a record are moved to fields.
use Rattle.std.specs.Prelude.{ℕ, ◌+◌, ◌-◌, Bool, true, false, not, ◌&&◌, ◌||◌, ◌==◌, nat_le, List, [], ◌∷◌, length, slice_range, Option, None, Some, is_some, option_map, if◌then◌else◌}
use Rattle.std.specs.List.{list_all}
use Rattle.std.specs.declared.cmp.Ordering.{Ordering}
use Rattle.std.specs.declared.cmp.Ordering.TheVariants.{Equal}
use Rattle.rpg_decimal_words.specs.Zoned.{number_in}
use Rattle.rpg_program.specs.Ended.{Gives, Ended, followed_by, if_right, or_halt}
use Rattle.rpg_program.specs.Ends.{Fault, Storage, Kind}
use Rattle.rpg_program.specs.Forms.{is_plain, kind_of}
use Rattle.rpg_program.specs.Showing.{shown_if_any, sign_of}
use Rattle.rpg_program.specs.Values.{Value, Number, Text}
use Rattle.rpg_program.specs.World.{Data, set_value}
use Rattle.rpg_program.specs.declared.form.FieldForm.{FieldForm}
use Rattle.rpg_program.specs.declared.form.Kind as form
use Rattle.rpg_program.specs.declared.form.Kind.TheVariants as kinds
use Rattle.rpg_program.specs.declared.input.ControlField.{ControlField}
use Rattle.rpg_program.specs.declared.input.InputField.{InputField}
use Rattle.rpg_program.specs.declared.input.InputFile.{InputFile}
use Rattle.rpg_program.specs.declared.input.RecordCode.{RecordCode}
use Rattle.rpg_program.specs.declared.operation.Shows.{Shows}

-- a record type: its file, its indicator, its codes, its control fields, the fields that its records fill, and its match fields
pub record TypeRow (K : Type 0) : Type 0 where
  pub file : InputFile
  pub indicator : Option ℕ
  pub codes : List RecordCode
  pub levels : List ControlField
  pub inputs : List (InputField K)
  pub matches : List ControlField

-- the columns of a record that an input field reads; the first column is 1
abbrev pub record_part : {K : Type 0} → InputField K → List ℕ → List ℕ
record_part f text = slice_range text (f.from - 1) f.to

-- the value of columns for a field of that kind, if they have one
abbrev pub value_read : form.Kind → List ℕ → Option Value
value_read kinds.Number text = option_map Number (number_in text)
value_read kinds.Text text = Some (Text text)

-- ---- what may be wrong

-- existing columns, as many as the length of a plain field
abbrev pub fits_columns : {K : Type 0} → ℕ → InputField K → Option FieldForm → Bool
fits_columns len f None = false
fits_columns len f (Some d) = (nat_le 1 f.from && (nat_le f.from f.to && nat_le f.to len)) && (is_plain d.class && (f.to + 1 - f.from == d.length))

-- for a text, only the zero indicator is allowed
abbrev pub fits_shows : form.Kind → Shows → Bool
fits_shows kinds.Number s = true
fits_shows kinds.Text s = not (is_some s.plus || is_some s.minus)

-- ---- what it does

-- how a value compares with zero: for a text, it can only be blank or not
abbrev pub order_of : Value → Option Ordering
order_of (Number n) = Some (sign_of n)
order_of (Text text) = if list_all (λ c. c == 32) text then Some Equal else None

module _ {K : Type 0} (forms : K → Option FieldForm) where
  -- what is wrong with an input field, for records of that length, whatever they contain
  unfoldable pub input_fault : ℕ → InputField K → Option Fault
  input_fault len f =
      if not (fits_columns len f (forms f.field)) then Some Storage
      else (if not (fits_shows (kind_of (forms f.field)) f.shows) then Some Kind else None)

module _ {K : Type 0} {R : K → K → Ordering} where
  -- a value is stored in a plain field, and then the indicators are set for it
  abbrev pub taken_in : K → Shows → Value → Data R → Data R
  taken_in k s v d = record (set_value d k 1 v) { on = shown_if_any s (order_of v) d.on }

module _ {K : Type 0} {R : K → K → Ordering} (forms : K → Option FieldForm) where
  -- one input field; a bad digit is halt 4
  unfoldable pub field_in : List ℕ → InputField K → Data R → Ended R
  field_in text f d =
      if_right (input_fault forms (length text) f) d
      (or_halt (value_read (kind_of (forms f.field)) (record_part f text)) 4 d (λ v. Gives (taken_in f.field f.shows v d)))

  -- the input fields of a type, in order
  unfoldable pub record_in : List ℕ → List (InputField K) → Data R → Ended R
  record_in text [] d = Gives d
  record_in text (f ∷ fs) d = followed_by (field_in text f d) (record_in text fs)
