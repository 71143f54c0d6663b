-- Lines with nothing wrong, and room for them.
use Rattle.std.specs.Prelude.{◌≡◌, All, ℕ, ◌≤◌, true, List, Option, None, Some, length}
use Rattle.rpg_edit_marks.specs.declared.code.Fill.{Fill}
use Rattle.rpg_program.specs.Forms.{form_at}
use Rattle.rpg_program.specs.LineFaults.{AreRight, field_width, fits_editing, fits_source, line_fault}
use Rattle.rpg_program.specs.Rows.{has_entry, is_one_entry}
use Rattle.rpg_program.specs.declared.form.FieldForm.{FieldForm}
use Rattle.rpg_program.specs.declared.line.Editing.{Editing}
use Rattle.rpg_program.specs.declared.line.LineField.{LineField}
use Rattle.rpg_program.specs.Constants.{word_at}
use Rattle.rpg_program.specs.Object.{LineRow, Object, file_length}

-- what a field with nothing wrong has
pub record IsRightField (forms : ℕ → Option FieldForm) (words : ℕ → List ℕ) (len : ℕ) (f : LineField ℕ) : Type 0 where
  pub there : has_entry forms f.operand ≡ true
  pub width : field_width forms words f ≤ f.end
  pub end : f.end ≤ len
  pub index : is_one_entry forms f.operand ≡ true
  pub editing : fits_editing forms words (forms f.operand.field) f.editing f.fill ≡ true
  pub source : fits_source f.source (forms f.operand.field) ≡ true

-- nothing is wrong with how a field of that form is edited
abbrev pub FitsEditing : Object → FieldForm → Editing ℕ → Fill → Type 0
FitsEditing p form editing fill = fits_editing (form_at p.fields) (word_at p) (Some form) editing fill ≡ true

-- nothing is wrong with the line and its fields, and they are no more than a line may have
pub record IsRightLine (p : Object) (l : LineRow) : Type 0 where
  pub fault : line_fault p.overflow.page.lines (file_length p l.file) l.spacing ≡ None
  pub fields : AreRight (form_at p.fields) (word_at p) (file_length p l.file) l.fields
  pub few : length l.fields ≤ 200

-- nothing is wrong with a line of the program
abbrev pub AreRightLines : Object → Type 0
AreRightLines p = All (IsRightLine p) p.lines

-- room for a line of each file
pub record HasLineRoom (p : Object) (text : List ℕ) : Type 0 where
  pub printer : p.printer_length ≤ length text
  pub disk : p.disk_length ≤ length text
