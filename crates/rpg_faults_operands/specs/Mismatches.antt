-- F17: which field's code or word doesn't fit, with what the number has and what the word takes.
use Rattle.std.specs.Prelude.{ℕ, ◌==◌, ◌&&◌, List, [], ◌∷◌, Option, None, Some, option_and_then, if◌then◌else◌}
use Rattle.std.specs.List.{range_with_len}
use Rattle.std.specs.Option.{option_map}
use Rattle.rpg_cards.specs.Cards.{output_field_on}
use Rattle.rpg_cards.specs.Names.{form_in, form_of_name}
use Rattle.rpg_cards.specs.declared.spec_card.SpecCard.{SpecCard}
use Rattle.rpg_faults_operands.specs.declared.mismatch.EditingCause.{EditingCause}
use Rattle.rpg_faults_operands.specs.declared.mismatch.Mismatch.{Mismatch}
use Rattle.rpg_faults_operands.specs.declared.mismatch.Mismatch.TheVariants.{Date, Fill, Text, Word}
use Rattle.rpg_edit_marks.specs.declared.code.EditCode.{EditCode}
use Rattle.rpg_edit_marks.specs.declared.code.EditCode.TheVariants.{Combination, X, Y, Z}
use Rattle.rpg_program.specs.LineFaults.{fits_word}
use Rattle.rpg_program.specs.declared.form.FieldForm.{FieldForm}
use Rattle.rpg_program.specs.declared.form.Kind.{Kind}
use Rattle.rpg_program.specs.declared.form.Kind.TheVariants as kind
use Rattle.rpg_faults_operands.specs.Editing.{bad_editing}
use Rattle.rpg_sheet_specs.specs.declared.entry.Entry.{Entry}
use Rattle.rpg_sheet_specs.specs.declared.output.OutputField.{OutputField}

-- the first of these numbers of digits that a word fits
abbrev pub first_fitting : List ℕ → List ℕ → Option ℕ
first_fitting word [] = None
first_fitting word (d ∷ ds) = if fits_word d word then Some d else first_fitting word ds

-- how many digits a word has places for; none where it fits no number
abbrev pub digits_that_fit : List ℕ → Option ℕ
digits_that_fit word = first_fitting word (range_with_len 0 25)

-- code Y edits 6 digits without decimals
abbrev pub date_mismatch : FieldForm → Mismatch
date_mismatch form = if form.length == 6 && form.decimals == 0 then Fill else Date form.length form.decimals

-- of a number: code Y, the fill of another code, or a word
abbrev pub number_mismatch : FieldForm → Option EditCode → Option (List ℕ) → Mismatch
number_mismatch form (Some Y) text = date_mismatch form
number_mismatch form (Some X) text = Fill
number_mismatch form (Some Z) text = Fill
number_mismatch form (Some (Combination commas zeros ending)) text = Fill
number_mismatch form None None = Fill
number_mismatch form None (Some word) = Word (digits_that_fit word) form.length form.decimals

-- codes and words edit numbers
abbrev pub kind_mismatch : Kind → FieldForm → OutputField → Mismatch
kind_mismatch kind.Text form f = Text form.length
kind_mismatch kind.Number form f = number_mismatch form f.code f.text

-- of a field without a form only the fill is known
abbrev pub mismatch : Option FieldForm → OutputField → Mismatch
mismatch None f = Fill
mismatch (Some form) f = kind_mismatch form.kind form f

-- of the field of that name
abbrev pub named_editing_cause : List SpecCard → OutputField → Entry → EditingCause
named_editing_cause cards f e = record { name = e.name; mismatch = mismatch (form_in (form_of_name e.name cards)) f }

-- F17 of a card
abbrev pub editing_cause : List SpecCard → SpecCard → Option EditingCause
editing_cause cards c =
    if bad_editing cards c then option_and_then (λ (f : OutputField). option_map (named_editing_cause cards f) f.operand) (output_field_on c.spec) else None
