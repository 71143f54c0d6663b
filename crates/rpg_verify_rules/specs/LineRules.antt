-- The rules of output lines.
use Rattle.std.specs.Prelude.{ℕ, Bool, true, false, not, ◌&&◌, ◌==◌, Option}
use Rattle.std.specs.List.{list_all, list_any}
use Rattle.rpg_edit_marks.specs.Code.{fits_code, is_blank_fill}
use Rattle.rpg_edit_marks.specs.declared.code.Fill.{Fill}
use Rattle.rpg_program.specs.Forms.{decimals_of, form_at, is_text_constant, kind_of, length_of, same_kind}
use Rattle.rpg_program.specs.LineFaults.{blanks_writable, fits_source, fits_word, has_room, is_spacing}
use Rattle.rpg_program.specs.Rows.{has_entry, is_one_entry}
use Rattle.rpg_program.specs.declared.form.FieldForm.{FieldForm}
use Rattle.rpg_program.specs.declared.form.Kind.TheVariants as kinds
use Rattle.rpg_program.specs.declared.line.Editing.{Editing}
use Rattle.rpg_program.specs.declared.line.Editing.TheVariants.{Plain, Code, Word}
use Rattle.rpg_program.specs.declared.line.File.{File}
use Rattle.rpg_program.specs.declared.line.File.TheVariants.{Printer, Disk}
use Rattle.rpg_program.specs.declared.line.LineField.{LineField}
use Rattle.rpg_program.specs.declared.line.Spacing.{Spacing}
use Rattle.rpg_program.specs.Constants.{word_at}
use Rattle.rpg_program.specs.Object.{LineRow, Object, file_length}
use Rattle.rpg_program.specs.declared.rows.Version.{Version}
use Rattle.rpg_verify_rules.specs.Indicators.{all_testable, is_testable}
use Rattle.rpg_verify_rules.specs.declared.rule.LineRule.{LineRule}
use Rattle.rpg_verify_rules.specs.declared.rule.LineRule.TheVariants.{V2, V8, V9, V10, V11, V12, V13, V14, V15}

-- the form of the field that is output
abbrev pub output_form_of : Object → LineField ℕ → Option FieldForm
output_form_of p f = form_at p.fields f.operand.field

-- no space and no skip
abbrev pub is_unspaced : Spacing → Bool
is_unspaced s = (s.space_before == 0 && s.space_after == 0) && (s.skip_before == 0 && s.skip_after == 0)

-- the printer's form moves on pages of that many lines; a disk record allows no movement
abbrev pub is_spaced_on : ℕ → File → Spacing → Bool
is_spaced_on lines Printer s = is_spacing lines s
is_spaced_on lines Disk s = is_unspaced s

-- a single entry that exists; PAGE is a plain number of 4 digits without decimals
abbrev pub is_field_there : Object → LineField ℕ → Bool
is_field_there p f =
    (has_entry (form_at p.fields) f.operand && is_one_entry (form_at p.fields) f.operand) && fits_source f.source (output_form_of p f)

-- Codes and words edit only numbers, and codes only those that they fit. A fill is used only with a code that allows it.
abbrev pub edits_form : Option FieldForm → Editing ℕ → Fill → Bool
edits_form form Plain fill = is_blank_fill fill
edits_form form (Code code) fill = same_kind (kind_of form) kinds.Number && fits_code (length_of form) (decimals_of form) code fill
edits_form form (Word k) fill = same_kind (kind_of form) kinds.Number && is_blank_fill fill

-- the edit code fits the field
abbrev pub is_field_edited : Object → LineField ℕ → Bool
is_field_edited p f = edits_form (output_form_of p f) f.editing f.fill

-- an edit word is a text constant of 1 to 24 characters that fits the digits
abbrev pub is_word_for : Object → ℕ → Editing ℕ → Bool
is_word_for p digits Plain = true
is_word_for p digits (Code code) = true
is_word_for p digits (Word k) = is_text_constant (form_at p.fields k) && fits_word digits (word_at p k)

-- the edit word fits the field
abbrev pub is_field_worded : Object → LineField ℕ → Bool
is_field_worded p f = is_word_for p (length_of (output_form_of p f)) f.editing

-- the field exists, and can't be edited this way
abbrev pub lacks_editing : Object → LineField ℕ → Bool
lacks_editing p f = is_field_there p f && not (is_field_edited p f)

-- the field exists and is edited as a number, by a word that doesn't fit
abbrev pub lacks_word : Object → LineField ℕ → Bool
lacks_word p f = is_field_there p f && (is_field_edited p f && not (is_field_worded p f))

-- the field exists and is validly edited, so it has a width
abbrev pub has_width : Object → LineField ℕ → Bool
has_width p f = is_field_there p f && (is_field_edited p f && is_field_worded p f)

-- the edit word, if there is one, is a text constant
abbrev pub names_text : Object → Editing ℕ → Bool
names_text p Plain = true
names_text p (Code code) = true
names_text p (Word k) = is_text_constant (form_at p.fields k)

-- the field exists and is validly edited, except for whether a word fits: its width is known
abbrev pub may_have_width : Object → LineField ℕ → Bool
may_have_width p f = is_field_there p f && (is_field_edited p f && names_text p f.editing)

-- it has a width, and begins before the line or ends after it
abbrev pub lacks_room : Object → ℕ → LineField ℕ → Bool
lacks_room p len f = has_width p f && not (has_room (form_at p.fields) (word_at p) len f)

-- it has a width, and begins and ends inside the line: V10 to V13 allow it
abbrev pub fits_line : Object → ℕ → LineField ℕ → Bool
fits_line p len f = has_width p f && has_room (form_at p.fields) (word_at p) len f

-- it fits, and is blanked although it may not be written
abbrev pub blanks_wrongly : Object → ℕ → LineField ℕ → Bool
blanks_wrongly p len f = not (blanks_writable (form_at p.fields) (word_at p) f) && fits_line p len f

-- the conditions are on indicators that the version has
abbrev pub is_field_testable : Version → LineField ℕ → Bool
is_field_testable v f = all_testable v f.conditions

-- it fits and is validly blanked, but tests an indicator that isn't allowed
abbrev pub has_untestable_condition : Object → ℕ → LineField ℕ → Bool
has_untestable_condition p len f = not (is_field_testable p.version f) && (blanks_writable (form_at p.fields) (word_at p) f && fits_line p len f)

-- the field breaks the rule in a line of that length; none breaks V2, V8 or V9, which are about the line itself
abbrev pub field_breaks : LineRule → Object → ℕ → LineField ℕ → Bool
field_breaks V2 p len f = false
field_breaks V8 p len f = false
field_breaks V9 p len f = false
field_breaks V10 p len f = not (is_field_there p f)
field_breaks V11 p len f = lacks_editing p f
field_breaks V12 p len f = lacks_word p f
field_breaks V13 p len f = lacks_room p len f
field_breaks V14 p len f = blanks_wrongly p len f
field_breaks V15 p len f = has_untestable_condition p len f

-- ---- whether a line breaks a rule; V10 to V15 don't apply to a field that a lower-numbered one rejects

-- the line breaks the rule
unfoldable pub line_breaks : LineRule → Object → LineRow → Bool
line_breaks V2 p l = file_length p l.file == 0
line_breaks V8 p l = not (is_spaced_on p.overflow.page.lines l.file l.spacing)
line_breaks V9 p l = not (list_all (list_all (is_testable p.version)) l.alternatives)
line_breaks V10 p l = not (list_all (is_field_there p) l.fields)
line_breaks V11 p l = list_any (lacks_editing p) l.fields
line_breaks V12 p l = list_any (lacks_word p) l.fields
line_breaks V13 p l = list_any (lacks_room p (file_length p l.file)) l.fields
line_breaks V14 p l = list_any (blanks_wrongly p (file_length p l.file)) l.fields
line_breaks V15 p l = list_any (has_untestable_condition p (file_length p l.file)) l.fields
