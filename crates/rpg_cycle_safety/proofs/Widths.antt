-- The text of a value is as wide as its field says.
use Rattle.std.proofs.Common.{◌≡◌, ℕ, ℤ, ◌-◌, ◌≤◌, Bool, true, false, cond, ltb, eqb, List, length, set, Option, None, Some, refl, ◌∙◌, length-set}
use Rattle.std.specs.List.{prefix_len}
use Rattle.rpg_decimal.proofs.LawLemmas.{length-zoned}
use Rattle.rpg_edit.proofs.Edits.{text_is}
use Rattle.rpg_edit_marks.specs.Code.{code_marks, dollar_in}
use Rattle.rpg_edit_marks.specs.How.{edited, width_of}
use Rattle.rpg_edit_marks.specs.Word.{word_marks}
use Rattle.rpg_edit_marks.specs.declared.code.Fill.{Fill}
use Rattle.rpg_edit_marks.specs.declared.code.Fill.TheVariants.{Blank, Star, Dollar}
use Rattle.rpg_edit_marks.specs.declared.how.How.{How}
use Rattle.rpg_edit_marks.specs.declared.how.How.TheVariants.{Plain, Code, Word}
use Rattle.rpg_program.specs.Editing.{text_of, width_as}
use Rattle.rpg_program.specs.Forms.{decimals_of, length_of}
use Rattle.rpg_program.specs.Values.{Value, Number, Text}
use Rattle.rpg_program.specs.declared.form.FieldForm.{FieldForm}
use Rattle.rpg_program.specs.declared.form.Kind.{Kind}
use Rattle.rpg_program.specs.declared.form.Kind.TheVariants as kinds
use Rattle.rpg_memory.specs.Fits.{HasForm}

-- a dollar sign stands in a place that was there
dollar_long : (b : Bool) (text : List ℕ) (i : ℕ) → length (cond b (set text i 36) text) ≡ length text
dollar_long true text i = length-set text i 36
dollar_long false text i = refl

filled_long : (fill : Fill) (text : List ℕ) → length (dollar_in fill text) ≡ length text
filled_long Blank text = refl
filled_long Star text = refl
filled_long Dollar text = dollar_long (ltb (prefix_len (λ c. eqb c 32) text) (length text)) text (prefix_len (λ c. eqb c 32) text - 1)

edited_long : (n : ℤ) (len dec : ℕ) (how : How (List ℕ)) → 1 ≤ len → length (edited n len dec how) ≡ width_of len dec how
edited_long n len dec Plain low = length-zoned len n low
edited_long n len dec (Code code fill) low = filled_long fill _ ∙ (text_is n _ _ (code_marks code fill len dec)).same_length
edited_long n len dec (Word word) low = (text_is n _ _ (word_marks word)).same_length

-- of a value of its field's form
pub text_wide : (kind : Kind) (form : Option FieldForm) (how : How (List ℕ)) (v : Option Value) → 1 ≤ length_of form → HasForm kind (length_of form) v →
    length (text_of form how v) ≡ width_as kind form how
text_wide kinds.Number form how (Some (Number n)) low h = edited_long n (length_of form) (decimals_of form) how low
text_wide kinds.Text form how (Some (Text text)) low h = h
text_wide kinds.Number form how (Some (Text text)) low h = absurd h
text_wide kinds.Text form how (Some (Number n)) low h = absurd h
text_wide kinds.Number form how None low h = absurd h
text_wide kinds.Text form how None low h = absurd h
