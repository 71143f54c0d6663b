-- Fields with nothing wrong.
use Rattle.std.proofs.Common.{◌≡◌, ℕ, ℤ, ◌≤◌, Bool, true, false, not, ◌&&◌, cond, nat_le, eqb, eqb-true, leb-true, List, ◌++◌, Option, None, Some, refl, sym, ap, ◌∙◌, subst, arith, length, drop, take, ◌-◌, ◌+◌, length-append, length-take-le}
use Rattle.std.proofs.lemmas.List.{take-take}
use Rattle.rpg_edit_marks.specs.Edited.{places}
use Rattle.rpg_edit_marks.specs.How.{edited, width_of}
use Rattle.rpg_edit_marks.specs.Word.{has_dollar_at_stop, word_marks, IsWordFor}
use Rattle.rpg_edit_marks.specs.declared.how.How.{How}
use Rattle.rpg_program.specs.LineFaults.{field_fault, field_width, fits_editing, fits_word, has_kinds, has_room, has_storage, has_word, may_change}
use Rattle.rpg_program.specs.Lines.{laid_over}
use Rattle.rpg_program.specs.Rows.{has_entry, is_one_entry}
use Rattle.rpg_program.specs.declared.form.FieldForm.{FieldForm}
use Rattle.rpg_program.specs.declared.line.LineField.{LineField}
use Rattle.rpg_program.specs.Ends.{Fault}
use Rattle.rpg_machine_lines.specs.Right.{IsRightField}
use Rattle.rpg_memory.proofs.Entries.{and_true}

none_then : (b : Bool) (f : Fault) (o : Option Fault) → cond (not b) (Some f) o ≡ None → (b ≡ true) × (o ≡ None)
none_then true f o h = (refl, h)
none_then false f o h = cc

-- a field without a fault
pub right : (forms : ℕ → Option FieldForm) (words : ℕ → List ℕ) (len : ℕ) (f : LineField ℕ) →
    field_fault forms words len f ≡ None → IsRightField forms words len f
unfolding field_fault
right forms words len f h =
    let one = none_then (has_storage forms words len f) _ _ h in
    let two = none_then (has_kinds forms words f) _ _ one.1 in
    let a = and_true (has_entry forms f.operand && has_word forms f.editing) (has_room forms words len f && may_change forms f) one.0 in
    let b = and_true (has_entry forms f.operand) (has_word forms f.editing) a.0 in
    let c = and_true (has_room forms words len f) (may_change forms f) a.1 in
    let room = and_true (nat_le (field_width forms words f) f.end) (nat_le f.end len) c.0 in
    let k = and_true (is_one_entry forms f.operand) _ two.0 in
    let l = and_true (fits_editing forms words (forms f.operand.field) f.editing f.fill) _ k.1 in
    record { there = b.0; width = leb-true _ _ room.0; end = leb-true _ _ room.1; index = k.0; editing = l.0; source = l.1 }

not_true : (b : Bool) → not b ≡ true → b ≡ false
not_true true h = cc
not_true false h = refl

pub word_fits : (len : ℕ) (word : List ℕ) → fits_word len word ≡ true → IsWordFor len word
word_fits len word h =
    let a = and_true (eqb (places (word_marks word)) len) (not (has_dollar_at_stop word)) (and_true _ _ h).1 in
    record { same_places = eqb-true _ _ a.0; no_dollar = not_true _ a.1 }

pub word_low : (len : ℕ) (word : List ℕ) → fits_word len word ≡ true → 1 ≤ length word
word_low len word h = leb-true _ _ (and_true (nat_le 1 (length word)) _ (and_true _ _ h).0).0

pub word_high : (len : ℕ) (word : List ℕ) → fits_word len word ≡ true → length word ≤ 24
word_high len word h = leb-true _ _ (and_true (nat_le 1 (length word)) (nat_le (length word) 24) (and_true _ _ h).0).1

pub ruleset fitting = (word_fits, word_low, word_high)

-- a text written to the end of a part that ends at a place is laid over the line there
pub laid_at_end : (text out part : List ℕ) (end width : ℕ) → end ≤ length text → width ≤ end → length out ≡ length (take end text) →
    out ≡ take (length (take end text) - width) (take end text) ++ part → out ++ drop end text ≡ laid_over text end part
unfolding laid_over
laid_at_end text out part end width within fits same e =
    let whole : length (take end text) ≡ end = length-take-le end text within in
    let front : take (length (take end text) - width) (take end text) ≡ take (end - width) text =
    ap (λ n. take (n - width) (take end text)) whole ∙ take-take (end - width) end text (omega arith) in
    let is : out ≡ take (end - width) text ++ part = e ∙ ap (λ xs. xs ++ part) front in
    let shorter : length (take (end - width) text) ≡ end - width = length-take-le (end - width) text (omega arith) in
    let lengths : length out ≡ length (take (end - width) text) + length part = ap length is ∙ length-append (take (end - width) text) part in
    let wide : end - width ≡ end - length part = omega (arith, lengths, shorter, same, whole, fits) in
    ap (λ xs. xs ++ drop end text) (is ∙ ap (λ n. take n text ++ part) wide)

-- the text of a number that was written there is laid over the line
pub number_at_end : (how same : How (List ℕ)) (n : ℤ) (len dec : ℕ) (text out : List ℕ) (end : ℕ) → how ≡ same → end ≤ length text → width_of len dec how ≤ end →
    length out ≡ length (take end text) → out ≡ take (length (take end text) - width_of len dec same) (take end text) ++ edited n len dec same →
    out ++ drop end text ≡ laid_over text end (edited n len dec how)
number_at_end how same n len dec text out end is within fits alike e =
    laid_at_end text out (edited n len dec how) end (width_of len dec how) within fits alike
    (subst (λ h. out ≡ take (length (take end text) - width_of len dec h) (take end text) ++ edited n len dec h) (sym is) e)

pub ruleset rightness = (right)
