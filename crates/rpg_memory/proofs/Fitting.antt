-- Writes keep values fit, and constants.
use Rattle.std.proofs.Common.{◌≡◌, ℕ, ◌≤◌, Bool, true, false, cond, List, Option, Some, unwrap_or, refl, sym, ap, ◌∙◌, subst, eqb-true}
use Rattle.std.proofs.lemmas.Option.{same_Some}
use Rattle.std.specs.Cmp.{nat_cmp_total, unsigned_tied}
use Rattle.std.specs.FinMap as maps
use Rattle.std.specs.List.{All}
use Rattle.std.specs.Ordering.{eq_by_cmp, nat_cmp}
use Rattle.rpg_program.specs.Forms.{entries_of, form_at, is_constant}
use Rattle.rpg_program.specs.Values.{Value, Text}
use Rattle.rpg_program.specs.declared.form.FieldForm.{FieldForm}
use Rattle.rpg_program.specs.Kept.{IsCharacter}
use Rattle.rpg_program.specs.Object.{Object}
use Rattle.rpg_memory.specs.Fits.{Fits, HasForm, KeepsConstants}
use Rattle.rpg_store.specs.Store.{Currents, Values}
use Rattle.rpg_store.proofs.ByEntry.{at_only, entries_total, tied, ties}

-- a value of the field's form, a text of characters, may be stored in any of its entries
pub fits-insert : (forms : List FieldForm) (values : Values) (current : Currents) (field n : ℕ) (v : Value) → Fits forms values current → ((d : FieldForm) → form_at forms field ≡ Some d → HasForm d.kind d.length (Some v)) → ((text : List ℕ) → v ≡ Text text → All IsCharacter text) →
    Fits forms (maps.insert values (field, n) v) current
fits-insert forms values current field n v fits valid characters = record {
  each = λ g d is m low high. subst (λ (o : Option Value). HasForm d.kind d.length o) (sym (maps.get-insert entries_total values (field, n) v (g, m))) (formed g d is m low high (ties (g, m) (field, n)) refl);
  characters = λ g m text h. spelled g m text (ties (g, m) (field, n)) (sym (maps.get-insert entries_total values (field, n) v (g, m)) ∙ h);
  low = fits.low;
  high = fits.high;
}
  where
    formed : (g : ℕ) (d : FieldForm) → form_at forms g ≡ Some d → (m : ℕ) → 1 ≤ m → m ≤ d.entries → (b : Bool) → ties (g, m) (field, n) ≡ b → HasForm d.kind d.length (cond b (Some v) (maps.get values (g, m)))
    formed g d is m low high true h = valid d (ap (λ (p : ℕ × ℕ). form_at forms p.0) (sym (tied (g, m) (field, n) h)) ∙ is)
    formed g d is m low high false h = fits.each g d is m low high

    spelled : (g m : ℕ) (text : List ℕ) (b : Bool) → cond b (Some v) (maps.get values (g, m)) ≡ Some (Text text) → All IsCharacter text
    spelled g m text true h = characters text (same_Some v (Text text) h)
    spelled g m text false h = fits.characters g m text h

-- any of its entries may become the current one of a table
pub fits-current : (forms : List FieldForm) (values : Values) (current : Currents) (table n : ℕ) → Fits forms values current → 1 ≤ n → n ≤ entries_of (form_at forms table) → Fits forms values (maps.insert current table n)
fits-current forms values current table n fits low high = record {
  each = fits.each;
  characters = fits.characters;
  low = λ q h. subst (λ (o : Option ℕ). 1 ≤ unwrap_or o 1) (sym (maps.get-insert nat_cmp_total current table n q)) (lowest q (eq_by_cmp nat_cmp q table) (fits.low q h));
  high = λ q h. subst (λ (o : Option ℕ). unwrap_or o 1 ≤ entries_of (form_at forms q)) (sym (maps.get-insert nat_cmp_total current table n q)) (highest q (eq_by_cmp nat_cmp q table) refl (fits.high q h));
}
  where
    lowest : (q : ℕ) (b : Bool) → 1 ≤ unwrap_or (maps.get current q) 1 → 1 ≤ unwrap_or (cond b (Some n) (maps.get current q)) 1
    lowest q true h = low
    lowest q false h = h

    highest : (q : ℕ) (b : Bool) → eq_by_cmp nat_cmp q table ≡ b → unwrap_or (maps.get current q) 1 ≤ entries_of (form_at forms q) → unwrap_or (cond b (Some n) (maps.get current q)) 1 ≤ entries_of (form_at forms q)
    highest q true t h = subst (λ (k : ℕ). n ≤ entries_of (form_at forms k)) (sym (eqb-true q table (sym (unsigned_tied q table) ∙ t))) high
    highest q false t h = h

-- constants keep their values where another field takes one
pub constants-insert : (p : Object) (values : Values) (field n : ℕ) (v : Value) → KeepsConstants p values → ((d : FieldForm) → form_at p.fields field ≡ Some d → is_constant d.class ≡ false) → KeepsConstants p (maps.insert values (field, n) v)
constants-insert p values field n v keeps other g d is constant m =
    maps.get-insert entries_total values (field, n) v (g, m)
    ∙ at_only (ties (g, m) (field, n)) v (maps.get values (g, m)) _ (λ t.
    let here : form_at p.fields field ≡ Some d = ap (λ (e : ℕ × ℕ). form_at p.fields e.0) (sym (tied (g, m) (field, n) t)) ∙ is in
    let not : is_constant d.class ≡ false = other d here in
    let wrong : true ≡ false = sym constant ∙ not in cc) (keeps g d is constant m)
