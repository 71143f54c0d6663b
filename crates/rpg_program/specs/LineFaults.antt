-- What may be wrong with a line and with a field of it. The verifier's rules on lines use the same definitions.
use Rattle.std.specs.Prelude.{◌≡◌, All, ℕ, Bool, true, false, not, ◌&&◌, ◌||◌, ◌==◌, nat_le, Option, None, Some, List, length, if◌then◌else◌}
use Rattle.rpg_edit_marks.specs.Edited.{places}
use Rattle.rpg_edit_marks.specs.Word.{has_dollar_at_stop, word_marks}
use Rattle.rpg_edit_marks.specs.Code.{fits_code, is_blank_fill}
use Rattle.rpg_edit_marks.specs.declared.code.Fill.{Fill}
use Rattle.rpg_program.specs.Editing.{how_of, width_as}
use Rattle.rpg_program.specs.Ends.{Fault, Storage, Kind}
use Rattle.rpg_program.specs.Forms.{kind_of, length_of, decimals_of, has_field, is_index_form, is_text_constant, may_write, same_kind}
use Rattle.rpg_program.specs.Rows.{has_entry, is_one_entry}
use Rattle.rpg_program.specs.declared.form.FieldForm.{FieldForm}
use Rattle.rpg_program.specs.declared.form.Kind.TheVariants as kinds
use Rattle.rpg_program.specs.declared.line.Editing.{Editing}
use Rattle.rpg_program.specs.declared.line.Editing.TheVariants as editings
use Rattle.rpg_program.specs.declared.line.LineField.{LineField}
use Rattle.rpg_program.specs.declared.line.Spacing.{Spacing}
use Rattle.rpg_program.specs.declared.line.Source.{Source}
use Rattle.rpg_program.specs.declared.line.Source.TheVariants as sources

-- spaces of at most 3 lines, skips to a line of the page
abbrev pub is_spacing : ℕ → Spacing → Bool
is_spacing lines s = (nat_le s.space_before 3 && nat_le s.space_after 3) && (nat_le s.skip_before lines && nat_le s.skip_after lines)

-- what is wrong with a line before its fields are checked: no file, a space over 3, a skip over the lines of a page
unfoldable pub line_fault : ℕ → ℕ → Spacing → Option Fault
line_fault lines len s = if nat_le 1 len && is_spacing lines s then None else Some Storage

-- ---- editing

-- 1 to 24 characters, as many places as digits, and no dollar sign right before the stop
abbrev pub fits_word : ℕ → List ℕ → Bool
fits_word len word = (nat_le 1 (length word) && nat_le (length word) 24) && ((places (word_marks word) == len) && not (has_dollar_at_stop word))

-- the field prints PAGE
abbrev pub prints_page : Source → Bool
prints_page sources.Value = false
prints_page sources.Page = true

-- PAGE is a plain number of 4 digits without decimals
abbrev pub fits_source : Source → Option FieldForm → Bool
fits_source sources.Value form = true
fits_source sources.Page form = is_index_form form && (length_of form == 4)

module _ {K : Type 0} (forms : K → Option FieldForm) where
  -- the constant that an edit word names exists
  abbrev pub has_word : Editing K → Bool
  has_word editings.Plain = true
  has_word (editings.Code code) = true
  has_word (editings.Word k) = has_field (forms k)

  -- written to only if that is allowed
  abbrev pub may_change : LineField K → Bool
  may_change f = not (f.is_blanked || prints_page f.source) || may_write (forms f.operand.field)

module _ {K : Type 0} (forms : K → Option FieldForm) (words : K → List ℕ) where
  -- codes and words edit only numbers, and fit them; a fill goes only with a code
  abbrev pub fits_editing : Option FieldForm → Editing K → Fill → Bool
  fits_editing form editings.Plain fill = is_blank_fill fill
  fits_editing form (editings.Code code) fill = same_kind (kind_of form) kinds.Number && fits_code (length_of form) (decimals_of form) code fill
  fits_editing form (editings.Word k) fill =
      (same_kind (kind_of form) kinds.Number && is_blank_fill fill) && (is_text_constant (forms k) && fits_word (length_of form) (words k))

  -- the width of the text of a field
  abbrev pub field_width : LineField K → ℕ
  field_width f = width_as (kind_of (forms f.operand.field)) (forms f.operand.field) (how_of words f.editing f.fill)

  -- it ends inside the line, and begins there
  abbrev pub has_room : ℕ → LineField K → Bool
  has_room len f = nat_le (field_width f) f.end && nat_le f.end len

  -- everything that the field names exists
  abbrev pub has_storage : ℕ → LineField K → Bool
  has_storage len f = (has_entry forms f.operand && has_word forms f.editing) && (has_room len f && may_change forms f)

  -- everything is of the required kind
  abbrev pub has_kinds : LineField K → Bool
  has_kinds f =
      is_one_entry forms f.operand
      && (fits_editing (forms f.operand.field) f.editing f.fill && fits_source f.source (forms f.operand.field))

  -- what is wrong with a field of a line of that length, whatever the values are
  unfoldable pub field_fault : ℕ → LineField K → Option Fault
  field_fault len f = if not (has_storage len f) then Some Storage else (if not (has_kinds f) then Some Kind else None)

  -- nothing is wrong with any of the fields, whether their conditions hold or not
  abbrev pub AreRight : ℕ → List (LineField K) → Type 0
  AreRight len fields = All (λ f. field_fault len f ≡ None) fields

  -- blank after is used only if the field may be written
  abbrev pub blanks_writable : LineField K → Bool
  blanks_writable f = not f.is_blanked || may_write (forms f.operand.field)

  -- what the verifier's rules require of a line's field: a valid operand, PAGE as required, codes and words that fit, room, and blank after
  -- only on what may be written
  pub record KeepsFieldRules (len : ℕ) (f : LineField K) : Type 0 where
    pub operand : (has_entry forms f.operand && is_one_entry forms f.operand) ≡ true
    pub source : fits_source f.source (forms f.operand.field) ≡ true
    pub editing : fits_editing (forms f.operand.field) f.editing f.fill ≡ true
    pub room : has_room len f ≡ true
    pub blanked : blanks_writable f ≡ true
