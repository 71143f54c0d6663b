-- Entries by their parts of the area.
use Rattle.std.proofs.Common.{◌≡◌, ◌≢◌, ℕ, ℤ, zero, suc, ◌+◌, ◌-◌, ◌*◌, ◌<◌, ◌≤◌, inl, inr, Bool, true, false, eqb, List, [], ◌∷◌, ◌++◌, length, map, Some, slice_get, refl, sym, ap, ◌∙◌, subst, arith, suc-mul, eq-eqb, eqb-true}
use Rattle.std.proofs.Math.ListN.{set}
use Rattle.std.proofs.lemmas.List.{length-map}
use Rattle.std.proofs.lemmas.Option.{same_Some, slice_get-map, slice_get_within}
use Rattle.std.specs.FinMap as maps
use Rattle.std.specs.Option.{option_map}
use Rattle.rpg_program.specs.Forms.{form_at, length_of}
use Rattle.rpg_store.specs.Contents.{by_entry, entries_from, positions_from}
use Rattle.rpg_program.specs.Values.{Value, Number, Text}
use Rattle.rpg_program.specs.declared.form.FieldForm.{FieldForm}
use Rattle.rpg_program.specs.declared.form.Kind.{Kind}
use Rattle.rpg_program.specs.declared.form.Kind.TheVariants as kinds
use Rattle.rpg_store.specs.Area.{AreaPart, bytes_in, field_parts, length_in, parts, start, text_value, part_value, IsArea}
use Rattle.rpg_store.specs.Written.{IsWritten}
use Rattle.rpg_store.specs.Flat.{flat_contents, written_at}
use Rattle.rpg_store.specs.Slots.{forms_of, slot_at, slot_start}
use Rattle.rpg_store.specs.declared.slot.Slot.{Slot}
use Rattle.rpg_store.proofs.ByEntry.{by_entry-set, cut, length-positions_from, there, within_field}
use Rattle.rpg_store.proofs.Bytes.{before_stays, after_stays, here_written, length-written}

-- ---- parts and entries go side by side

field_part : (k : Kind) (len at m n : ℕ) (more : List AreaPart) → n < m → slice_get (field_parts k len at m ++ more) n ≡ Some (record { kind = k; at = at + n * len; len = len })
field_part k len at zero n more h = absurd (omega arith)
field_part k len at (suc m) zero more h = let e : at ≡ at + 0 * len = omega arith in ap (λ (a : ℕ). Some (record { kind = k; at = a; len = len })) e
field_part k len at (suc m) (suc n) more h =
    let u = suc-mul n len in
    let e : at + len + n * len ≡ at + suc n * len = omega arith in
    field_part k len (at + len) m n more (omega arith) ∙ ap (λ (a : ℕ). Some (record { kind = k; at = a; len = len })) e

pub length-field_parts : (k : Kind) (len at m : ℕ) → length (field_parts k len at m) ≡ m
length-field_parts k len at zero = refl
length-field_parts k len at (suc m) = let t = length-field_parts k len (at + len) m in omega arith

past : {X : Type 0} (xs ys : List X) (n m : ℕ) → n ≡ length xs + m → slice_get (xs ++ ys) n ≡ slice_get ys m
past [] ys n m h = let e : n ≡ m = omega arith in ap (slice_get ys) e
past (x ∷ xs) ys zero m h = absurd (omega arith)
past (x ∷ xs) ys (suc n) m h = past xs ys n m (omega arith)

pub record Aligned (slots : List Slot) (k n q e : ℕ) : Type 0 where
  pub index : ℕ
  pub field : q ≡ k + index
  pub slot : Slot
  pub is : slice_get slots index ≡ Some slot
  pub first : 1 ≤ e
  pub part : slice_get (parts slots) n ≡ Some (record { kind = slot.form.kind; at = slot.first + (e - 1) * slot.form.length; len = slot.form.length })

pub aligned : (slots : List Slot) (k n q e : ℕ) → slice_get (entries_from k (forms_of slots)) n ≡ Some (q, e) → Aligned slots k n q e
aligned [] k n q e h = cc
aligned (r ∷ rs) k n q e h = elim (cut (positions_from k 1 r.form.entries) (entries_from (k + 1) (forms_of rs)) n (q, e) h) [
  | inl i ↦
      let t = within_field k 1 r.form.entries n q e i in let u = t.0 in let w = t.1.0 in let x = t.1.1 in
      let m : n ≡ e - 1 = omega arith in
      record {
        index = 0;
        field = omega arith;
        slot = r;
        is = refl;
        first = omega arith;
        part =
            field_part r.form.kind r.form.length r.first r.form.entries n (parts rs) x ∙ ap (λ (j : ℕ). Some (record { kind = r.form.kind; at = r.first + j * r.form.length; len = r.form.length })) m;
      }
  | inr p ↦
      let t = aligned rs (k + 1) p.0 q e p.1.1 in
      let u = t.field in let a = p.1.0 in let c = length-positions_from k 1 r.form.entries in
      let d = length-field_parts r.form.kind r.form.length r.first r.form.entries in
      record {
        index = suc t.index;
        field = omega arith;
        slot = t.slot;
        is = t.is;
        first = t.first;
        part =
            past (field_parts r.form.kind r.form.length r.first r.form.entries) (parts rs) n p.0 (omega arith) ∙ t.part;
      }
]

pub slot_here : (slots : List Slot) (q index : ℕ) (r : Slot) → q ≡ 1 + index → slice_get slots index ≡ Some r → slot_at slots q ≡ Some r
slot_here slots zero index r h i = absurd (omega arith)
slot_here slots (suc k) index r h i = let e : k ≡ index = omega arith in ap (slice_get slots) e ∙ i

form_here : (slots : List Slot) (q : ℕ) (r : Slot) → slot_at slots q ≡ Some r → length_of (form_at (forms_of slots) q) ≡ r.form.length
form_here slots zero r h = cc
form_here slots (suc k) r h = ap length_of (slice_get-map (λ (x : Slot). x.form) slots k ∙ ap (λ o. option_map (λ (x : Slot). x.form) o) h)

-- an entry with its value, and its part of the area
pub record At (slots : List Slot) (area : List ℕ) (q e : ℕ) (v : Value) : Type 0 where
  pub place : ℕ
  pub entry : slice_get (entries_from 1 (forms_of slots)) place ≡ Some (q, e)
  pub part : AreaPart
  pub is : slice_get (parts slots) place ≡ Some part
  pub begins : part.at ≡ start slots (q, e)
  pub long : part.len ≡ length_in (slot_at slots q)
  pub form : length_of (form_at (forms_of slots) q) ≡ part.len
  pub value : part_value area part ≡ v

pub at : (slots : List Slot) (area : List ℕ) (q e : ℕ) (v : Value) → maps.get (flat_contents (record { slots = slots; area = area })) (q, e) ≡ Some v → At slots area q e v
at slots area q e v h =
    let t = there (forms_of slots) (map (part_value area) (parts slots)) (q, e) v h in
    let a = aligned slots 1 t.0 q e t.1.0 in
    let r : slot_at slots q ≡ Some a.slot = slot_here slots q a.index a.slot a.field a.is in
    record {
      place = t.0;
      entry = t.1.0;
      part = record { kind = a.slot.form.kind; at = a.slot.first + (e - 1) * a.slot.form.length; len = a.slot.form.length };
      is = a.part;
      begins = ap (λ o. slot_start o + (e - 1) * length_in o) (sym r);
      long = ap length_in (sym r);
      form = form_here slots q a.slot r;
      value = same_Some _ v (sym (slice_get-map (part_value area) (parts slots) t.0 ∙ ap (λ o. option_map (part_value area) o) a.part) ∙ t.1.1);
    }

number_kind : (k : Kind) (text : List ℕ) (n : ℤ) → text_value k text ≡ Number n → k ≡ kinds.Number
number_kind kinds.Number text n h = refl
number_kind kinds.Text text n h = cc

text_kind : (k : Kind) (text t : List ℕ) → text_value k text ≡ Text t → k ≡ kinds.Text
text_kind kinds.Number text t h = cc
text_kind kinds.Text text t h = refl

pub is_number : (slots : List Slot) (area : List ℕ) (q e : ℕ) (n : ℤ) → (a : At slots area q e (Number n)) → a.part.kind ≡ kinds.Number
is_number slots area q e n a = number_kind a.part.kind (bytes_in area a.part) n a.value

pub is_text : (slots : List Slot) (area : List ℕ) (q e : ℕ) (t : List ℕ) → (a : At slots area q e (Text t)) → a.part.kind ≡ kinds.Text
is_text slots area q e t a = text_kind a.part.kind (bytes_in area a.part) t a.value

-- ---- writing

-- one value of a list that a function gives becomes another
map_set : (f g : AreaPart → Value) (ps : List AreaPart) (n : ℕ) (p : AreaPart) → slice_get ps n ≡ Some p → ((j : ℕ) (b : AreaPart) → slice_get ps j ≡ Some b → j ≢ n → g b ≡ f b) → map g ps ≡ set (map f ps) n (g p)
map_set f g [] n p h same = cc
map_set f g (a ∷ ps) zero p h same =
    ap (λ (z : AreaPart). g z ∷ map g ps) (same_Some a p h) ∙ ap (λ vs. g p ∷ vs) (map_all ps (λ j b i. same (suc j) b i (λ e. absurd (omega arith))))
  where
    map_all : (qs : List AreaPart) → ((j : ℕ) (b : AreaPart) → slice_get qs j ≡ Some b → g b ≡ f b) → map g qs ≡ map f qs
    map_all [] all = refl
    map_all (b ∷ qs) all = ap (λ v. v ∷ map g qs) (all 0 b refl) ∙ ap (λ vs. f b ∷ vs) (map_all qs (λ j c i. all (suc j) c i))
map_set f g (a ∷ ps) (suc n) p h same =
    ap (λ v. v ∷ map g ps) (same 0 a refl (λ e. absurd (omega arith)))
    ∙ ap (λ vs. f a ∷ vs) (map_set f g ps n p h (λ j b i ne. same (suc j) b i (λ e. ne (omega arith))))

-- bytes for a part change no other part
other_stays : (ps : List AreaPart) (area : List ℕ) (n : ℕ) (p : AreaPart) (w : List ℕ) → IsArea ps area → slice_get ps n ≡ Some p → length w ≡ p.len → (j : ℕ) (b : AreaPart) → slice_get ps j ≡ Some b → j ≢ n → bytes_in (written_at area p.at w) b ≡ bytes_in area b
other_stays ps area n p w a h l j b i ne =
    let room = a.inside n p h in
    elim (a.apart j n b p i h ne) [
      | inl before ↦ before_stays area p.at w b.at b.len before (omega arith)
      | inr following ↦ after_stays area p.at w b.at b.len (omega arith) (omega arith)
    ]

value_of_bytes : (area area' : List ℕ) (b : AreaPart) → bytes_in area' b ≡ bytes_in area b → part_value area' b ≡ part_value area b
value_of_bytes area area' b h = ap (text_value b.kind) h

-- bytes as long as the entry's part are that entry's value, and all other values stay
pub written_there : (slots : List Slot) (area : List ℕ) (q e : ℕ) (v : Value) (w : List ℕ) → IsArea (parts slots) area → (a : At slots area q e v) → length w ≡ a.part.len →
    flat_contents (record { slots = slots; area = written_at area a.part.at w }) ≡ maps.insert (flat_contents (record { slots = slots; area = area })) (q, e) (text_value a.part.kind w)
written_there slots area q e v w o a l =
    let ps = parts slots in
    let new = written_at area a.part.at w in
    let inside : a.place < length ps = slice_get_within ps a.place a.part a.is in
    let few : length (map (part_value area) ps) ≡ length ps = length-map ps (part_value area) in
    let put : map (part_value new) ps ≡ set (map (part_value area) ps) a.place (part_value new a.part) = map_set (part_value area) (part_value new) ps a.place a.part a.is (λ j b i ne. value_of_bytes area new b (other_stays ps area a.place a.part w o a.is l j b i ne)) in
    let here : part_value new a.part ≡ text_value a.part.kind w = ap (text_value a.part.kind) (here_written area a.part.at w a.part.len (o.inside a.place a.part a.is) l) in
    ap (by_entry (forms_of slots)) put ∙ by_entry-set (forms_of slots) (map (part_value area) ps) a.place (q, e) (part_value new a.part) a.entry (omega arith)
    ∙ ap (λ y. maps.insert (by_entry (forms_of slots) (map (part_value area) ps)) (q, e) y) here

-- a number that is written keeps the area in order
pub number_keeps : (ps : List AreaPart) (area : List ℕ) (n : ℕ) (p : AreaPart) (w : List ℕ) → IsArea ps area → slice_get ps n ≡ Some p → length w ≡ p.len → IsWritten w → IsArea ps (written_at area p.at w)
number_keeps ps area n p w a h l wr =
    let long = length-written area p.at w in
    record {
      inside = λ i b s. let t = a.inside i b s in omega arith;
      apart = a.apart;
      numbers_first = a.numbers_first;
      digits = a.digits;
      numbers = λ i b s k. at_place i b s k (eqb i n) refl;
    }
  where
    at_place : (i : ℕ) (b : AreaPart) → slice_get ps i ≡ Some b → b.kind ≡ kinds.Number → (t : Bool) → eqb i n ≡ t → IsWritten (bytes_in (written_at area p.at w) b)
    at_place i b s k true e =
        let same : i ≡ n = eqb-true i n e in
        let bp : b ≡ p = same_Some b p (sym s ∙ ap (slice_get ps) same ∙ h) in
        let here = here_written area p.at w p.len (a.inside n p h) l in
        subst (λ xs. IsWritten xs) (sym (ap (λ (z : AreaPart). bytes_in (written_at area p.at w) z) bp ∙ here)) wr
    at_place i b s k false e =
        let ne : i ≢ n = λ q. (let t : eqb i n ≡ true = eq-eqb i n q in cc) in
        subst (λ xs. IsWritten xs) (sym (other_stays ps area n p w a h l i b s ne)) (a.numbers i b s k)

-- whatever is written from the beginning of a text on, the numbers stay
pub text_keeps : (ps : List AreaPart) (area : List ℕ) (n : ℕ) (p : AreaPart) (w : List ℕ) → IsArea ps area → slice_get ps n ≡ Some p → p.kind ≡ kinds.Text → IsArea ps (written_at area p.at w)
text_keeps ps area n p w a h k =
    let long = length-written area p.at w in
    let room = a.inside n p h in
    record {
      inside = λ i b s. let t = a.inside i b s in omega arith;
      apart = a.apart;
      numbers_first = a.numbers_first;
      digits = a.digits;
      numbers = λ i b s m. subst (λ xs. IsWritten xs) (sym (before_stays area p.at w b.at b.len (a.numbers_first i n b p s h m k) (omega arith))) (a.numbers i b s m);
    }

-- ---- another current entry

pub parts-set : (slots : List Slot) (n : ℕ) (x r : Slot) → slice_get slots n ≡ Some x → r.form ≡ x.form → r.first ≡ x.first → parts (set slots n r) ≡ parts slots
parts-set [] n x r h f g = refl
parts-set (y ∷ rs) zero x r h f g =
    let same : y ≡ x = same_Some y x h in
    ap (λ (d : FieldForm). field_parts d.kind d.length r.first d.entries ++ parts rs) (f ∙ ap (λ (z : Slot). z.form) (sym same))
    ∙ ap (λ (m : ℕ). field_parts y.form.kind y.form.length m y.form.entries ++ parts rs) (g ∙ ap (λ (z : Slot). z.first) (sym same))
parts-set (y ∷ rs) (suc n) x r h f g = ap (λ ps. field_parts y.form.kind y.form.length y.first y.form.entries ++ ps) (parts-set rs n x r h f g)
