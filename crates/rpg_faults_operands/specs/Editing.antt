-- F17: edit codes and words that don't fit; and the width of an output field.
use Rattle.std.specs.Prelude.{ℕ, List, length, Bool, true, false, not, ◌&&◌, Option, None, Some, is_none, is_some, if◌then◌else◌}
use Rattle.std.specs.Option.{option_and_then, option_map, option_map_or}
use Rattle.rpg_cards.specs.Cards.{output_field_on}
use Rattle.rpg_cards.specs.declared.spec_card.SpecCard.{SpecCard}
use Rattle.rpg_program.specs.Forms.{same_kind}
use Rattle.rpg_program.specs.LineFaults.{fits_word}
use Rattle.rpg_edit_marks.specs.Code.{fill_by, fits_code, takes_fill}
use Rattle.rpg_program.specs.declared.form.FieldForm.{FieldForm}
use Rattle.rpg_program.specs.declared.form.Kind.TheVariants as kind
use Rattle.rpg_edit_marks.specs.How.{width_of}
use Rattle.rpg_edit_marks.specs.declared.code.EditCode.{EditCode}
use Rattle.rpg_edit_marks.specs.declared.code.Fill.{Fill}
use Rattle.rpg_edit_marks.specs.declared.code.Fill.TheVariants as fill
use Rattle.rpg_edit_marks.specs.declared.how.How.{How}
use Rattle.rpg_edit_marks.specs.declared.how.How.TheVariants.{Plain, Code, Word}
use Rattle.rpg_sheet_specs.specs.declared.entry.Entry.{Entry}
use Rattle.rpg_sheet_specs.specs.declared.output.OutputField.{OutputField}
use Rattle.rpg_faults_operands.specs.Operands.{output_form}

-- ---- the meaning of the columns

-- the fill of a code: blanks if there is no text, none for a text that isn't a fill
abbrev pub fill_in : Option (List ℕ) → Option Fill
fill_in None = Some fill.Blank
fill_in (Some text) = fill_by text

-- how a field is edited, by its code and its text; none if there is a code and the text isn't a fill
abbrev pub how_by : Option EditCode → Option (List ℕ) → Option (How (List ℕ))
how_by None None = Some Plain
how_by None (Some word) = Some (Word word)
how_by (Some code) text = option_map (λ f. Code code f) (fill_in text)

-- how an output field is edited, by its code and its text
abbrev pub output_how : OutputField → Option (How (List ℕ))
output_how f = how_by f.code f.text

-- ---- whether editing fits

-- the code takes its fill
abbrev pub has_fill : How (List ℕ) → Bool
has_fill Plain = true
has_fill (Code code f) = takes_fill code f
has_fill (Word word) = true

-- codes and words edit numbers
abbrev pub suits : FieldForm → How (List ℕ) → Bool
suits form Plain = true
suits form (Code code f) = same_kind form.kind kind.Number && fits_code form.length form.decimals code f
suits form (Word word) = same_kind form.kind kind.Number && fits_word form.length word

-- the editing, if it suits a field of that form
abbrev pub if_suited : FieldForm → How (List ℕ) → Option (How (List ℕ))
if_suited form how = if suits form how then Some how else None

-- how a field of that form is edited, if its code or word fits
abbrev pub fitting_how : FieldForm → OutputField → Option (How (List ℕ))
fitting_how form f = option_and_then (if_suited form) (output_how f)

-- all that is tested for a field without a form is its fill
abbrev pub unedited : Option FieldForm → OutputField → Bool
unedited None f = option_map_or (λ how. not (has_fill how)) (output_how f) true
unedited (Some form) f = is_none (fitting_how form f)

-- an output field with a name and an editing that doesn't fit
abbrev pub edits_badly : List SpecCard → OutputField → Bool
edits_badly cards f = is_some f.operand && unedited (output_form cards f) f

-- F17 of a card, if it has an output field
abbrev pub bad_editing : List SpecCard → SpecCard → Bool
bad_editing cards c = option_map_or (edits_badly cards) (output_field_on c.spec) false

-- ---- widths: of what is edited by a code or word that fits, and of a constant

-- the width of a field as it is edited, if its code or word fits
abbrev pub edited_width : FieldForm → OutputField → Option ℕ
edited_width form f = option_map (width_of form.length form.decimals) (fitting_how form f)

-- the width of a constant; none with a code or without a text
abbrev pub constant_width : OutputField → Option ℕ
constant_width f = if is_none f.code then option_map length f.text else None

-- the width of an output field with that operand, if it is known
abbrev pub width_by : Option Entry → Option FieldForm → OutputField → Option ℕ
width_by None form f = constant_width f
width_by (Some e) form f = option_and_then (λ d. edited_width d f) form

-- the places that an output field takes in its line, if they are known
abbrev pub width : List SpecCard → OutputField → Option ℕ
width cards f = width_by f.operand (output_form cards f) f
