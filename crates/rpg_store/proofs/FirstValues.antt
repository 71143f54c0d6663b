-- First values fit the entries of an area of zeros.
use Rattle.std.proofs.Common.{◌≡◌, ℕ, zero, suc, ◌+◌, ◌-◌, ◌*◌, ◌≤◌, List, [], ◌∷◌, length, map, Option, Some, slice_get, cond, refl, sym, ap, ◌∙◌, subst, arith, length-append}
use Rattle.std.proofs.lemmas.List.{length-map}
use Rattle.std.proofs.lemmas.Option.{get_or_from_slice_get, same_Some, slice_get-map, slice_get_within}
use Rattle.std.specs.FinMap as maps
use Rattle.std.specs.List.{All}
use Rattle.std.specs.Option.{option_map}
use Rattle.rpg_program.specs.Forms.{form_at, is_table, length_of, size_of}
use Rattle.rpg_program.specs.Values.{Value, Number, Text}
use Rattle.rpg_program.specs.declared.form.FieldForm.{FieldForm}
use Rattle.rpg_program.specs.declared.form.Kind.{Kind}
use Rattle.rpg_program.specs.declared.form.Kind.TheVariants as kinds
use Rattle.rpg_program.specs.Kept.{AreEntriesOf, AreValuesOf, IsFieldRow, IsValueOf, storage_of}
use Rattle.rpg_program.specs.Object.{Object}
use Rattle.rpg_store.specs.Area.{AreaPart, all_number_bytes, area_slots, by_kind, bytes_in, text_bytes, number_bytes, field_parts, parts, text_value, part_value, zeros, IsArea}
use Rattle.rpg_store.specs.Contents.{by_entry, entries_from, positions_from}
use Rattle.rpg_store.specs.Filling.{with_field_values, IsLike, MayTakeFields}
use Rattle.rpg_store.specs.First.{first_currents, joined_values, tables_from}
use Rattle.rpg_store.specs.Flat.{Flat, flat_contents}
use Rattle.rpg_store.specs.Slots.{currents, currents_from, entries_count, forms_of, slot_at}
use Rattle.rpg_store.specs.declared.slot.Slot.{Slot}
use Rattle.rpg_store.proofs.ByEntry.{length-positions_from, value_here}
use Rattle.rpg_store.proofs.ByPart.{aligned, length-field_parts, slot_here}
use Rattle.rpg_store.proofs.Filling.{all_filled}
use Rattle.rpg_store.proofs.FirstArea.{zeros_area}
use Rattle.rpg_store.proofs.InArea.{flat, long_as}
use Rattle.rpg_store.proofs.Places.{entry_at}

-- ---- the first table

pub forms_area : (a b : ℕ) (fs : List FieldForm) → forms_of (area_slots a b fs) ≡ fs
forms_area a b [] = refl
forms_area a b (f ∷ fs) = ap (λ ds. f ∷ ds) (forms_area (a + number_bytes f.kind (size_of f)) (b + text_bytes f.kind (size_of f)) fs)

currents_same : (a b k : ℕ) (fs : List FieldForm) → currents_from k (area_slots a b fs) ≡ tables_from k fs
currents_same a b k [] = refl
currents_same a b k (f ∷ fs) = ap (λ es. cond (is_table f.class) ((k, 1) ∷ es) es) (currents_same (a + number_bytes f.kind (size_of f)) (b + text_bytes f.kind (size_of f)) (k + 1) fs)

pub currents_area : (a b : ℕ) (fs : List FieldForm) (p : Object) → fs ≡ p.fields → currents (area_slots a b fs) ≡ first_currents p
unfolding currents first_currents
currents_area a b fs p h = ap (λ es. maps.from_entries es) (currents_same a b 1 fs ∙ ap (tables_from 1) h)

length_parts : (a b : ℕ) (fs : List FieldForm) → length (parts (area_slots a b fs)) ≡ entries_count fs
length_parts a b [] = refl
length_parts a b (f ∷ fs) =
    let t = length_parts (a + number_bytes f.kind (size_of f)) (b + text_bytes f.kind (size_of f)) fs in
    let u = length-field_parts f.kind f.length (by_kind f.kind a b) f.entries in
    length-append (field_parts f.kind f.length (by_kind f.kind a b) f.entries) (parts (area_slots (a + number_bytes f.kind (size_of f)) (b + text_bytes f.kind (size_of f)) fs)) ∙ omega arith

length_entries : (k : ℕ) (fs : List FieldForm) → length (entries_from k fs) ≡ entries_count fs
length_entries k [] = refl
length_entries k (f ∷ fs) =
    let t = length_entries (k + 1) fs in let u = length-positions_from k 1 f.entries in
    length-append (positions_from k 1 f.entries) (entries_from (k + 1) fs) ∙ omega arith

-- a value for each entry
pub values_area : (fs : List FieldForm) (area : List ℕ) → length (map (part_value area) (parts (area_slots 0 (all_number_bytes fs) fs))) ≡ length (entries_from 1 fs)
values_area fs area =
    let ps = parts (area_slots 0 (all_number_bytes fs) fs) in
    let m = length-map ps (part_value area) in
    let p = length_parts 0 (all_number_bytes fs) fs in
    let e = length_entries 1 fs in omega arith

-- ---- what stands at an entry

form_found : (slots : List Slot) (q : ℕ) (r : Slot) → slot_at slots q ≡ Some r → form_at (forms_of slots) q ≡ Some r.form
form_found slots zero r h = cc
form_found slots (suc k) r h = slice_get-map (λ (x : Slot). x.form) slots k ∙ ap (λ o. option_map (λ (x : Slot). x.form) o) h

-- a value of the field's form
pub part_there : (slots : List Slot) (area : List ℕ) (q e : ℕ) (f : FieldForm) → IsArea (parts slots) area → form_at (forms_of slots) q ≡ Some f → 1 ≤ e → e ≤ f.entries →
    (t : List ℕ) × ((maps.get (flat_contents (flat slots area)) (q, e) ≡ Some (text_value f.kind t)) × (length t ≡ f.length))
part_there slots area q e f whole h low high =
    let p = entry_at (forms_of slots) q e f h low high in
    let a = aligned slots 1 p.0 q e p.1 in
    let part : AreaPart = record { kind = a.slot.form.kind; at = a.slot.first + (e - 1) * a.slot.form.length; len = a.slot.form.length } in
    let form : a.slot.form ≡ f = same_Some a.slot.form f (sym (form_found slots q a.slot (slot_here slots q a.index a.slot a.field a.is)) ∙ h) in
    let value = value_here (forms_of slots) (map (part_value area) (parts slots)) p.0 (q, e) p.1 ∙ slice_get-map (part_value area) (parts slots) p.0 ∙ ap (λ o. option_map (part_value area) o) a.part in
    let long = long_as area part (whole.inside p.0 part a.part) in
    (bytes_in area part, (value ∙ ap (λ (d : FieldForm). Some (text_value d.kind (bytes_in area part))) form, long ∙ ap (λ (d : FieldForm). d.length) form))

-- the first values of a field, with its form
pub field_values : (fs : List FieldForm) (vss : List (List Value)) (k : ℕ) (vs : List Value) → AreValuesOf fs vss → slice_get vss k ≡ Some vs → (f : FieldForm) × ((slice_get fs k ≡ Some f) × AreEntriesOf f vs)
field_values [] [] k vs h i = cc
field_values [] (us ∷ vss) k vs h i = absurd h
field_values (f ∷ fs) [] k vs h i = absurd h
field_values (f ∷ fs) (us ∷ vss) zero vs h i = (f, (refl, subst (λ xs. AreEntriesOf f xs) (same_Some us vs i) h.0))
field_values (f ∷ fs) (us ∷ vss) (suc k) vs h i = field_values fs vss k vs h.1 i

pub value_at : (f : FieldForm) (vs : List Value) (n : ℕ) (v : Value) → AreEntriesOf f vs → slice_get vs n ≡ Some v → IsValueOf f.kind f.length v
value_at f vs n v h i = subst (λ (x : Value). IsValueOf f.kind f.length x) (get_or_from_slice_get vs n v v i) (h.each n v (slice_get_within vs n v i))

is_like : (k : Kind) (len : ℕ) (t : List ℕ) (v : Value) → length t ≡ len → IsValueOf k len v → IsLike (Some (text_value k t)) len v
is_like kinds.Number len t (Number n) l h = h
is_like kinds.Number len t (Text u) l h = absurd h
is_like kinds.Text len t (Number n) l h = absurd h
is_like kinds.Text len t (Text u) l h = h.0 ∙ sym l

-- the first values may be put into an area of their fields
pub may_take : (slots : List Slot) (area : List ℕ) (vss : List (List Value)) → IsArea (parts slots) area → All IsFieldRow (forms_of slots) → AreValuesOf (forms_of slots) vss → MayTakeFields (forms_of slots) (flat_contents (flat slots area)) vss
may_take slots area vss whole valid h k vs i =
    let g = field_values (forms_of slots) vss k vs h i in
    let number = g.1.1.number in
    let at : slice_get (forms_of slots) k ≡ Some g.0 = g.1.0 in
    let row : IsFieldRow g.0 = subst (λ (x : FieldForm). IsFieldRow x) (get_or_from_slice_get (forms_of slots) k g.0 g.0 at) (valid k g.0 (slice_get_within (forms_of slots) k g.0 at)) in
    let most = row.most in
    let next : k + 1 ≡ suc k = omega arith in
    let form : form_at (forms_of slots) (k + 1) ≡ Some g.0 = ap (form_at (forms_of slots)) next ∙ at in
    record {
      few = omega arith;
      each = λ n v j.
          let inside = slice_get_within vs n v j in
          let p = part_there slots area (k + 1) (n + 1) g.0 whole form (omega arith) (omega arith) in
          subst (λ (o : Option Value). IsLike o (length_of (form_at (forms_of slots) (k + 1))) v) (sym p.1.0)
          (subst (λ (o : Option FieldForm). IsLike (Some (text_value g.0.kind p.0)) (length_of o) v) (sym form) (is_like g.0.kind g.0.length p.0 v p.1.1 (value_at g.0 vs n v g.1.1 j)));
    }

pub few_values : (fs : List FieldForm) (vss : List (List Value)) → AreValuesOf fs vss → length vss ≡ length fs
few_values [] [] h = refl
few_values [] (vs ∷ vss) h = absurd h
few_values (f ∷ fs) [] h = absurd h
few_values (f ∷ fs) (vs ∷ vss) h = let t = few_values fs vss h.1 in omega arith

-- ---- an area of zeros

-- a store of these fields in which each byte is a zero
abbrev pub first_flat : List FieldForm → Flat
first_flat fs = flat (area_slots 0 (all_number_bytes fs) fs) (zeros (storage_of fs))

pub may_take_first : (fs : List FieldForm) (vss : List (List Value)) → All IsFieldRow fs → AreValuesOf fs vss → MayTakeFields (forms_of (first_flat fs).slots) (flat_contents (first_flat fs)) vss
may_take_first fs vss valid h =
    let forms = forms_area 0 (all_number_bytes fs) fs in
    may_take (area_slots 0 (all_number_bytes fs) fs) (zeros (storage_of fs)) vss (zeros_area fs valid) (subst (λ ds. All IsFieldRow ds) (sym forms) valid) (subst (λ (ds : List FieldForm). AreValuesOf ds vss) (sym forms) h)

pub first_filled : (fs : List FieldForm) (vss : List (List Value)) → AreValuesOf fs vss → with_field_values (flat_contents (first_flat fs)) 1 vss ≡ by_entry fs (joined_values vss)
first_filled fs vss h =
    let ws = map (part_value (zeros (storage_of fs))) (parts (area_slots 0 (all_number_bytes fs) fs)) in
    ap (λ (ds : List FieldForm). with_field_values (by_entry ds ws) 1 vss) (forms_area 0 (all_number_bytes fs) fs) ∙ all_filled fs ws vss h (values_area fs (zeros (storage_of fs)))
