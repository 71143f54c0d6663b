-- Whether a field lacks room is tested before whether its word fits.
use Rattle.std.proofs.Common.{◌≡◌, ℕ, Bool, true, false, not, ◌&&◌, refl, sym, ap, ◌∙◌}
use Rattle.std.proofs.lemmas.Bool.{and_parts, false≢true}
use Rattle.rpg_program.specs.Forms.{form_at, length_of}
use Rattle.rpg_program.specs.LineFaults.{has_room}
use Rattle.rpg_program.specs.declared.line.Editing.{Editing}
use Rattle.rpg_program.specs.declared.line.Editing.TheVariants.{Plain, Code, Word}
use Rattle.rpg_program.specs.declared.line.LineField.{LineField}
use Rattle.rpg_program.specs.Constants.{word_at}
use Rattle.rpg_program.specs.Object.{Object}
use Rattle.rpg_verify_rules.specs.LineRules.{output_form_of, has_width, is_field_edited, is_field_there, is_field_worded, is_word_for, lacks_room, may_have_width, names_text}

-- a word that fits is a text constant
worded_text : (p : Object) (digits : ℕ) (editing : Editing ℕ) → is_word_for p digits editing ≡ true → names_text p editing ≡ true
worded_text p digits Plain h = refl
worded_text p digits (Code code) h = refl
worded_text p digits (Word k) h = (and_parts _ _ h).0

room_first : (there edited text worded lacks : Bool) → (worded ≡ true → text ≡ true) → ((there && (edited && text)) && (lacks && worded)) ≡ ((there && (edited && worded)) && lacks)
room_first false edited text worded lacks h = refl
room_first true false text worded lacks h = refl
room_first true true false true lacks h = absurd (false≢true (h refl))
room_first true true false false lacks h = refl
room_first true true true true true h = refl
room_first true true true true false h = refl
room_first true true true false true h = refl
room_first true true true false false h = refl

lacks_later : (p : Object) (len : ℕ) (f : LineField ℕ) → (may_have_width p f && (not (has_room (form_at p.fields) (word_at p) len f) && is_field_worded p f)) ≡ lacks_room p len f
lacks_later p len f =
    room_first (is_field_there p f) (is_field_edited p f) (names_text p f.editing) (is_field_worded p f) (not (has_room (form_at p.fields) (word_at p) len f))
    (worded_text p (length_of (output_form_of p f)) f.editing)

-- of a field that has no room, all hangs on whether its word fits
pub lacking : (p : Object) (len : ℕ) (f : LineField ℕ) (worded : Bool) → may_have_width p f ≡ true → has_room (form_at p.fields) (word_at p) len f ≡ false → worded ≡ is_field_worded p f
    → worded ≡ lacks_room p len f
lacking p len f worded may none is =
    is ∙ sym (ap (λ b. not b && is_field_worded p f) none)
    ∙ sym (ap (λ b. b && (not (has_room (form_at p.fields) (word_at p) len f) && is_field_worded p f)) may) ∙ lacks_later p len f

width_parts : (there edited worded text : Bool) → (worded ≡ true → text ≡ true) → (there && (edited && worded)) ≡ true → (there && (edited && text)) ≡ true
width_parts true true worded text h w = h w
width_parts true false worded text h w = w
width_parts false edited worded text h w = w

-- a field that has a width: it can be computed
pub width_reported : (p : Object) (f : LineField ℕ) → has_width p f ≡ true → may_have_width p f ≡ true
width_reported p f h = width_parts (is_field_there p f) (is_field_edited p f) (is_field_worded p f) (names_text p f.editing) (worded_text p (length_of (output_form_of p f)) f.editing) h
