-- The text of a value in a line, and its width.
use Rattle.std.specs.Prelude.{ℕ, List, [], Option, None, Some}
use Rattle.rpg_edit_marks.specs.How.{edited, width_of}
use Rattle.rpg_edit_marks.specs.declared.code.Fill.{Fill}
use Rattle.rpg_edit_marks.specs.declared.how.How.{How}
use Rattle.rpg_edit_marks.specs.declared.how.How.TheVariants as hows
use Rattle.rpg_program.specs.Forms.{length_of, decimals_of}
use Rattle.rpg_program.specs.Values.{Value, Number, Text}
use Rattle.rpg_program.specs.declared.form.FieldForm.{FieldForm}
use Rattle.rpg_program.specs.declared.form.Kind.{Kind}
use Rattle.rpg_program.specs.declared.form.Kind.TheVariants as kinds
use Rattle.rpg_program.specs.declared.line.Editing.{Editing}
use Rattle.rpg_program.specs.declared.line.Editing.TheVariants as editings

-- how a field is edited; `words` are the characters of the constants, which are never written
abbrev pub how_of : {K : Type 0} → (K → List ℕ) → Editing K → Fill → How (List ℕ)
how_of words editings.Plain fill = hows.Plain
how_of words (editings.Code code) fill = hows.Code code fill
how_of words (editings.Word k) fill = hows.Word (words k)

-- the text of a value: a number edited, the characters of a text
abbrev pub text_of : Option FieldForm → How (List ℕ) → Option Value → List ℕ
text_of form how None = []
text_of form how (Some (Number n)) = edited n (length_of form) (decimals_of form) how
text_of form how (Some (Text text)) = text

-- the characters that a value of that kind takes
abbrev pub width_as : Kind → Option FieldForm → How (List ℕ) → ℕ
width_as kinds.Number form how = width_of (length_of form) (decimals_of form) how
width_as kinds.Text form how = length_of form
