-- The parts of an area whose numbers lie before its texts.
use Rattle.std.proofs.Common.{◌≡◌, ◌≢◌, ℕ, zero, suc, ◌+◌, ◌*◌, ◌<◌, ◌≤◌, ◌⊎◌, inl, inr, List, [], ◌∷◌, length, Some, slice_get, refl, sym, ap, ◌∙◌, subst, arith, suc-mul, mul_comm}
use Rattle.std.proofs.Math.Nat.{mul-le-mul_right}
use Rattle.std.proofs.lemmas.Grind.{common_steps}
use Rattle.std.proofs.lemmas.List.Elements.{All-head, All-tail}
use Rattle.std.proofs.lemmas.Option.{same_Some}
use Rattle.std.specs.List.{All}
use Rattle.rpg_program.specs.Forms.{size_of}
use Rattle.rpg_program.specs.declared.form.FieldForm.{FieldForm}
use Rattle.rpg_program.specs.declared.form.Kind.{Kind}
use Rattle.rpg_program.specs.declared.form.Kind.TheVariants as kinds
use Rattle.rpg_program.specs.Kept.{IsFieldRow, length_limit, storage_of}
use Rattle.rpg_store.specs.Area.{AreaPart, all_text_bytes, all_number_bytes, area_slots, by_kind, text_bytes, number_bytes, field_parts, parts, zeros, AreApart, IsArea}
use Rattle.rpg_store.specs.Written.{IsWritten}
use Rattle.rpg_store.proofs.ByEntry.{cut}
use Rattle.rpg_store.proofs.ByPart.{length-field_parts}
use Rattle.rpg_store.proofs.Storage.{all_bytes}
use Rattle.rpg_store.proofs.Zeros.{some_zeros, zero_is_written}

-- a part of a field's entries
record InField (k : Kind) (len at m i : ℕ) (p : AreaPart) : Type 0 where
  kind : p.kind ≡ k
  long : p.len ≡ len
  begins : p.at ≡ at + i * len
  few : i < m

in_field : (k : Kind) (len at m i : ℕ) (p : AreaPart) → slice_get (field_parts k len at m) i ≡ Some p → InField k len at m i p
in_field k len at zero i p h = cc
in_field k len at (suc m) zero p h =
    let e = same_Some _ p h in
    record { kind = ap (λ (x : AreaPart). x.kind) (sym e); long = ap (λ (x : AreaPart). x.len) (sym e); begins = ap (λ (x : AreaPart). x.at) (sym e) ∙ omega arith; few = omega arith }
in_field k len at (suc m) (suc i) p h =
    let t = in_field k len (at + len) m i p h in
    let b = t.begins in let u = suc-mul i len in let f = t.few in
    record { kind = t.kind; long = t.long; begins = omega arith; few = omega arith }

-- it ends before the next one and before the field's end
ends : (len i j : ℕ) → i < j → i * len + len ≤ j * len
ends len i j h = let t = mul-le-mul_right {m = suc i} {n = j} len (omega arith) in let u = suc-mul i len in omega arith

ends_in : (f : FieldForm) (at i : ℕ) (p : AreaPart) → InField f.kind f.length at f.entries i p → (at ≤ p.at) × (p.at + p.len ≤ at + size_of f)
ends_in f at i p t =
    let b = t.begins in let l = t.long in let e = ends f.length i f.entries t.few in let c = mul_comm f.length f.entries in
    (omega arith, omega arith)

-- numbers lie between those places, and texts between those
record Within (a b : ℕ) (fs : List FieldForm) (p : AreaPart) : Type 0 where
  number : p.kind ≡ kinds.Number → (a ≤ p.at) × (p.at + p.len ≤ a + all_number_bytes fs)
  text : p.kind ≡ kinds.Text → (b ≤ p.at) × (p.at + p.len ≤ b + all_text_bytes fs)

head_number : (k : Kind) (a b n more : ℕ) (p : AreaPart) → p.kind ≡ k → by_kind k a b ≤ p.at → p.at + p.len ≤ by_kind k a b + n → p.kind ≡ kinds.Number → (a ≤ p.at) × (p.at + p.len ≤ a + (number_bytes k n + more))
head_number kinds.Number a b n more p e l h q = (l, omega arith)
head_number kinds.Text a b n more p e l h q = let x : kinds.Text ≡ kinds.Number = sym e ∙ q in cc

head_text : (k : Kind) (a b n more : ℕ) (p : AreaPart) → p.kind ≡ k → by_kind k a b ≤ p.at → p.at + p.len ≤ by_kind k a b + n → p.kind ≡ kinds.Text → (b ≤ p.at) × (p.at + p.len ≤ b + (text_bytes k n + more))
head_text kinds.Number a b n more p e l h q = let x : kinds.Number ≡ kinds.Text = sym e ∙ q in cc
head_text kinds.Text a b n more p e l h q = (l, omega arith)

within : (fs : List FieldForm) (a b i : ℕ) (p : AreaPart) → slice_get (parts (area_slots a b fs)) i ≡ Some p → Within a b fs p
within [] a b i p h = cc
within (f ∷ fs) a b i p h = elim (cut (field_parts f.kind f.length (by_kind f.kind a b) f.entries) (parts (area_slots (a + number_bytes f.kind (size_of f)) (b + text_bytes f.kind (size_of f)) fs)) i p h) [
  | inl e ↦
      let t = in_field f.kind f.length (by_kind f.kind a b) f.entries i p e in
      let r = ends_in f (by_kind f.kind a b) i p t in
      record {
        number = head_number f.kind a b (size_of f) (all_number_bytes fs) p t.kind r.0 r.1;
        text = head_text f.kind a b (size_of f) (all_text_bytes fs) p t.kind r.0 r.1;
      }
  | inr r ↦
      let t = within fs (a + number_bytes f.kind (size_of f)) (b + text_bytes f.kind (size_of f)) r.0 p r.1.1 in
      record {
        number = λ k. let u = t.number k in let v = u.0 in let w = u.1 in (omega arith, omega arith);
        text = λ k. let u = t.text k in let v = u.0 in let w = u.1 in (omega arith, omega arith);
      }
]

-- a part of the first field and one of a later field
first_apart : (k j : Kind) (a b n : ℕ) (fs : List FieldForm) (p q : AreaPart) → a + (number_bytes k n + all_number_bytes fs) ≤ b → by_kind k a b ≤ p.at → p.at + p.len ≤ by_kind k a b + n → q.kind ≡ j → Within (a + number_bytes k n) (b + text_bytes k n) fs q → AreApart p q
first_apart kinds.Number kinds.Number a b n fs p q room l h e w = let u = w.number e in let v = u.0 in inl (omega arith)
first_apart kinds.Number kinds.Text a b n fs p q room l h e w = let u = w.text e in let v = u.0 in inl (omega arith)
first_apart kinds.Text kinds.Number a b n fs p q room l h e w = let u = w.number e in let v = u.1 in inr (omega arith)
first_apart kinds.Text kinds.Text a b n fs p q room l h e w = let u = w.text e in let v = u.0 in inl (omega arith)

swapped : (p q : AreaPart) → AreApart p q → AreApart q p
swapped p q h = elim h [ inl x ↦ inr x | inr x ↦ inl x ]

same_field : (k : Kind) (len at m i j : ℕ) (p q : AreaPart) → InField k len at m i p → InField k len at m j q → (i < j) ⊎ (j < i) → AreApart p q
same_field k len at m i j p q s t h = elim h [
  | inl x ↦ let e = ends len i j x in let a = s.begins in let b = t.begins in let c = s.long in inl (omega arith)
  | inr x ↦ let e = ends len j i x in let a = s.begins in let b = t.begins in let c = t.long in inr (omega arith)
]

sides : (i j : ℕ) → i ≢ j → (i < j) ⊎ (j < i)
sides zero zero h = absurd (h refl)
sides zero (suc j) h = inl (omega arith)
sides (suc i) zero h = inr (omega arith)
sides (suc i) (suc j) h = elim (sides i j (λ e. h (ap suc e))) [ inl x ↦ inl (omega arith) | inr x ↦ inr (omega arith) ]

apart : (fs : List FieldForm) (a b : ℕ) → a + all_number_bytes fs ≤ b → (i j : ℕ) (p q : AreaPart) → slice_get (parts (area_slots a b fs)) i ≡ Some p → slice_get (parts (area_slots a b fs)) j ≡ Some q → i ≢ j → AreApart p q
apart [] a b room i j p q h k ne = cc
apart (f ∷ fs) a b room i j p q h k ne =
    let at = by_kind f.kind a b in
    let n = size_of f in
    let rest = parts (area_slots (a + number_bytes f.kind n) (b + text_bytes f.kind n) fs) in
    let mine = field_parts f.kind f.length at f.entries in
    let len = length-field_parts f.kind f.length at f.entries in
    elim (cut mine rest i p h) [
      | inl x ↦ elim (cut mine rest j q k) [
        | inl y ↦ same_field f.kind f.length at f.entries i j p q (in_field f.kind f.length at f.entries i p x) (in_field f.kind f.length at f.entries j q y) (sides i j ne)
        | inr y ↦
            let r = ends_in f at i p (in_field f.kind f.length at f.entries i p x) in
            first_apart f.kind q.kind a b n fs p q room r.0 r.1 refl (within fs (a + number_bytes f.kind n) (b + text_bytes f.kind n) y.0 q y.1.1)
      ]
      | inr x ↦ elim (cut mine rest j q k) [
        | inl y ↦
            let r = ends_in f at j q (in_field f.kind f.length at f.entries j q y) in
            swapped q p (first_apart f.kind p.kind a b n fs q p room r.0 r.1 refl (within fs (a + number_bytes f.kind n) (b + text_bytes f.kind n) x.0 p x.1.1))
        | inr y ↦
            let di = x.1.0 in let dj = y.1.0 in
            apart fs (a + number_bytes f.kind n) (b + text_bytes f.kind n) (omega arith) x.0 y.0 p q x.1.1 y.1.1 (λ e. ne (omega arith))
      ]
    ]

number_long : (k : Kind) (len : ℕ) (p : AreaPart) → p.kind ≡ k → p.len ≡ len → 1 ≤ len → len ≤ length_limit k → p.kind ≡ kinds.Number → (1 ≤ p.len) × (p.len ≤ 15)
number_long kinds.Number len p e l low high q = (omega arith, omega arith)
number_long kinds.Text len p e l low high q = let x : kinds.Text ≡ kinds.Number = sym e ∙ q in cc

digits_few : (fs : List FieldForm) (a b i : ℕ) (p : AreaPart) → All IsFieldRow fs → slice_get (parts (area_slots a b fs)) i ≡ Some p → p.kind ≡ kinds.Number → (1 ≤ p.len) × (p.len ≤ 15)
digits_few [] a b i p slots h q = cc
digits_few (f ∷ fs) a b i p slots h q = elim (cut (field_parts f.kind f.length (by_kind f.kind a b) f.entries) (parts (area_slots (a + number_bytes f.kind (size_of f)) (b + text_bytes f.kind (size_of f)) fs)) i p h) [
  | inl e ↦ let t = in_field f.kind f.length (by_kind f.kind a b) f.entries i p e in number_long f.kind f.length p t.kind t.long (All-head IsFieldRow f fs slots).shortest (All-head IsFieldRow f fs slots).longest q
  | inr r ↦ digits_few fs (a + number_bytes f.kind (size_of f)) (b + text_bytes f.kind (size_of f)) r.0 p (All-tail IsFieldRow f fs slots) r.1.1 q
]

ends_by : (k : Kind) (fs : List FieldForm) (p : AreaPart) → p.kind ≡ k → Within 0 (all_number_bytes fs) fs p → p.at + p.len ≤ storage_of fs
ends_by kinds.Number fs p e w = let u = w.number e in let v = u.1 in let t = all_bytes fs in omega arith
ends_by kinds.Text fs p e w = let u = w.text e in let v = u.1 in let t = all_bytes fs in omega arith

-- an area of zeros
pub zeros_area : (fs : List FieldForm) → All IsFieldRow fs → IsArea (parts (area_slots 0 (all_number_bytes fs) fs)) (zeros (storage_of fs))
zeros_area fs slots =
    let d = all_number_bytes fs in
    let n = storage_of fs in
    record {
      inside = λ i p h. let t = ends_by p.kind fs p refl (within fs 0 d i p h) in let l = length-replicate n in omega arith;
      apart = apart fs 0 d (omega arith);
      numbers_first = λ i j p q h k x y. let u = (within fs 0 d i p h).number x in let v = (within fs 0 d j q k).text y in let s = u.1 in let r = v.0 in omega arith;
      digits = λ i p h k. digits_few fs 0 d i p slots h k;
      numbers = λ i p h k.
          let t = digits_few fs 0 d i p slots h k in
          subst (λ xs. IsWritten xs) (sym (some_zeros n p.at p.len (ends_by p.kind fs p refl (within fs 0 d i p h)))) (zero_is_written p.len t.0);
    }
  where
    length-replicate : (m : ℕ) → length (zeros m) ≡ m
    length-replicate m = grind (arith, common_steps)
