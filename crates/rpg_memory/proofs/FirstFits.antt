-- What a program starts with fits its fields.
use Rattle.std.proofs.Common.{◌≡◌, ℕ, zero, suc, pos, ◌+◌, ◌-◌, ◌<◌, ◌≤◌, inl, inr, Bool, true, false, cond, List, [], ◌∷◌, length, get_or, Option, None, Some, unwrap_or, slice_get, refl, sym, ap, ◌∙◌, subst, arith}
use Rattle.std.proofs.lemmas.Option.{get_or_from_slice_get, same_Some, slice_get-get_or, slice_get_within}
use Rattle.std.specs.Cmp.{nat_cmp_total}
use Rattle.std.specs.FinMap as maps
use Rattle.std.specs.List.{All}
use Rattle.std.specs.Ordering.{eq_by_cmp, nat_cmp}
use Rattle.rpg_program.specs.Forms.{entries_of, form_at, is_table, is_table_form}
use Rattle.rpg_program.specs.Values.{Value, Number, Text}
use Rattle.rpg_program.specs.declared.form.FieldForm.{FieldForm}
use Rattle.rpg_program.specs.declared.form.Kind.{Kind}
use Rattle.rpg_program.specs.declared.form.Kind.TheVariants as kinds
use Rattle.rpg_program.specs.Kept.{AreValuesOf, IsCharacter, IsFieldRow, IsProgram, IsValueOf}
use Rattle.rpg_program.specs.Object.{Object}
use Rattle.rpg_store.specs.Contents.{by_entry}
use Rattle.rpg_store.specs.First.{first_contents, first_currents, joined_values, tables_from}
use Rattle.rpg_memory.specs.Fits.{Fits, HasForm}
use Rattle.rpg_store.proofs.ByEntry.{before, cut, there, value_here}
use Rattle.rpg_store.proofs.FirstValues.{value_at}
use Rattle.rpg_store.proofs.Places.{entry_place, in_first, in_second}

-- ---- values

-- each position of a field has a value of the field's form
value_there : (fs : List FieldForm) (vss : List (List Value)) (i j : ℕ) (f : FieldForm) → AreValuesOf fs vss → slice_get fs i ≡ Some f → j < f.entries → (v : Value) × ((slice_get (joined_values vss) (before fs i + j) ≡ Some v) × IsValueOf f.kind f.length v)
value_there [] vss i j f h is l = cc
value_there (g ∷ fs) [] i j f h is l = absurd h
value_there (g ∷ fs) (vs ∷ vss) zero j f h is l =
    let same : g ≡ f = same_Some g f is in
    let number = h.0.number in
    let many : g.entries ≡ f.entries = ap (λ (d : FieldForm). d.entries) same in
    let inside : j < length vs = omega arith in
    let v : Value = get_or vs j (Number (pos 0)) in
    let place : 0 + j ≡ j = omega arith in
    (v, (ap (slice_get (joined_values (vs ∷ vss))) place ∙ in_first vs (joined_values vss) j v (slice_get-get_or vs j (Number (pos 0)) inside), subst (λ (d : FieldForm). IsValueOf d.kind d.length v) same (h.0.each j (Number (pos 0)) inside)))
value_there (g ∷ fs) (vs ∷ vss) (suc i) j f h is l =
    let t = value_there fs vss i j f h.1 is l in
    let number = h.0.number in
    (t.0, (in_second vs (joined_values vss) (g.entries + before fs i + j) (before fs i + j) t.0 (omega arith) t.1.0, t.1.1))

has_form : (k : Kind) (len : ℕ) (v : Value) → IsValueOf k len v → HasForm k len (Some v)
has_form kinds.Number len (Number n) h = h
has_form kinds.Number len (Text text) h = absurd h
has_form kinds.Text len (Number n) h = absurd h
has_form kinds.Text len (Text text) h = h.0

each_first : (fs : List FieldForm) (vss : List (List Value)) (q n : ℕ) (d : FieldForm) → AreValuesOf fs vss → form_at fs q ≡ Some d → 1 ≤ n → n ≤ d.entries → (v : Value) × ((maps.get (by_entry fs (joined_values vss)) (q, n) ≡ Some v) × IsValueOf d.kind d.length v)
each_first fs vss zero n d h is low high = cc
each_first fs vss (suc i) n d h is low high =
    let field : 1 + i ≡ suc i = omega arith in
    let t = value_there fs vss i (n - 1) d h is (omega arith) in
    (t.0, (value_here fs (joined_values vss) (before fs i + (n - 1)) (suc i, n) (entry_place fs 1 i n d is low high ∙ ap (λ (j : ℕ). Some (j, n)) field) ∙ t.1.0, t.1.1))

-- ---- characters

text_characters : (k : Kind) (len : ℕ) (text : List ℕ) → IsValueOf k len (Text text) → All IsCharacter text
text_characters kinds.Number len text h = absurd h
text_characters kinds.Text len text h = h.1

characters_there : (fs : List FieldForm) (vss : List (List Value)) (m : ℕ) (text : List ℕ) → AreValuesOf fs vss → slice_get (joined_values vss) m ≡ Some (Text text) → All IsCharacter text
characters_there [] [] m text h is = cc
characters_there [] (vs ∷ vss) m text h is = absurd h
characters_there (f ∷ fs) [] m text h is = absurd h
characters_there (f ∷ fs) (vs ∷ vss) m text h is = elim (cut vs (joined_values vss) m (Text text) is) [
  | inl x ↦ text_characters f.kind f.length text (value_at f vs m (Text text) h.0 x)
  | inr x ↦ characters_there fs vss x.0 text h.1 x.1.1
]

-- ---- current entries

ones : (fs : List FieldForm) (k q : ℕ) → unwrap_or (maps.find nat_cmp q (tables_from k fs)) 1 ≡ 1
ones [] k q = refl
ones (f ∷ fs) k q = here (ones fs (k + 1) q) (is_table f.class)
  where
    found : (b : Bool) (o : Option ℕ) → unwrap_or o 1 ≡ 1 → unwrap_or (cond b (Some 1) o) 1 ≡ 1
    found true o h = refl
    found false o h = h

    here : unwrap_or (maps.find nat_cmp q (tables_from (k + 1) fs)) 1 ≡ 1 → (t : Bool) → unwrap_or (maps.find nat_cmp q (cond t ((k, 1) ∷ tables_from (k + 1) fs) (tables_from (k + 1) fs))) 1 ≡ 1
    here more true = found (eq_by_cmp nat_cmp q k) (maps.find nat_cmp q (tables_from (k + 1) fs)) more
    here more false = more

first_is_one : (p : Object) (q : ℕ) → unwrap_or (maps.get (first_currents p) q) 1 ≡ 1
unfolding first_currents
first_is_one p q = ap (λ o. unwrap_or o 1) (maps.get-from_entries nat_cmp_total (tables_from 1 p.fields) q) ∙ ones p.fields 1 q

table_there : (o : Option FieldForm) → is_table_form o ≡ true → (d : FieldForm) × (o ≡ Some d)
table_there None h = cc
table_there (Some d) h = (d, refl)

form_row : (fs : List FieldForm) (q : ℕ) (d : FieldForm) → All IsFieldRow fs → form_at fs q ≡ Some d → IsFieldRow d
form_row fs zero d rows h = cc
form_row fs (suc i) d rows h = subst (λ (x : FieldForm). IsFieldRow x) (get_or_from_slice_get fs i d d h) (rows i d (slice_get_within fs i d h))

-- ---- all together

pub first_fits : (p : Object) → IsProgram p → Fits p.fields (first_contents p) (first_currents p)
first_fits p kept = record {
  each = λ q d is n low high. let t = each_first p.fields p.values q n d kept.values is low high in subst (λ (o : Option Value). HasForm d.kind d.length o) (sym t.1.0) (has_form d.kind d.length t.0 t.1.1);
  characters = λ q n text is. let t = there p.fields (joined_values p.values) (q, n) (Text text) is in characters_there p.fields p.values t.0 text kept.values t.1.1;
  low = λ q h. let one = first_is_one p q in omega arith;
  high = λ q h.
      let t = table_there (form_at p.fields q) h in
      let row = form_row p.fields q t.0 kept.fields t.1 in
      let fewest = row.fewest in
      let one = first_is_one p q in
      let many : entries_of (form_at p.fields q) ≡ t.0.entries = ap entries_of t.1 in
      omega arith;
}
