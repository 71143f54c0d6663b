-- Values in the order of the entries, as a finite map.
use Rattle.std.proofs.Common.{◌≡◌, ℕ, zero, suc, ◌+◌, ◌-◌, ◌<◌, ◌≤◌, ◌⊎◌, inl, inr, Bool, true, false, ◌&&◌, cond, eqb, List, [], ◌∷◌, ◌++◌, length, zip, Option, Some, slice_get, refl, sym, ap, ◌∙◌, arith, eq-eqb, eqb-true, nat_cmp, Ordering, Less, Equal, Greater}
use Rattle.std.proofs.Math.ListN.{set}
use Rattle.std.proofs.lemmas.Map.Lookups.{exact_pairs, exact_unsigned}
use Rattle.std.proofs.lemmas.Option.{same_Some, some_pair_parts}
use Rattle.std.specs.Cmp.{IsTotalOrder, nat_cmp_total, on_total, then_total, unsigned_tied}
use Rattle.std.specs.FinMap as maps
use Rattle.std.specs.Ordering.{eq_by_cmp, is_eq, ordering_then}
use Rattle.rpg_program.specs.Values.{Value, entry_cmp}
use Rattle.rpg_program.specs.declared.form.FieldForm.{FieldForm}
use Rattle.rpg_store.specs.Contents.{by_entry, entries_from, positions_from}

-- ---- the order of entries

pub entries_total : IsTotalOrder (entry_cmp nat_cmp)
entries_total = then_total (on_total (λ (p : ℕ × ℕ). p.0) nat_cmp_total) (on_total (λ (p : ℕ × ℕ). p.1) nat_cmp_total)

pub entries_same : maps.IsAntisymmetric (entry_cmp nat_cmp)
entries_same x y h = exact_pairs nat_cmp nat_cmp exact_unsigned exact_unsigned x y h

both_equal : (a b : Ordering) → is_eq (ordering_then a b) ≡ (is_eq a && is_eq b)
both_equal Less b = refl
both_equal Equal b = refl
both_equal Greater b = refl

pub same_entry : (q e k m : ℕ) → eq_by_cmp (entry_cmp nat_cmp) (q, e) (k, m) ≡ (eqb q k && eqb e m)
same_entry q e k m = both_equal (nat_cmp q k) (nat_cmp e m) ∙ ap (λ b. b && eq_by_cmp nat_cmp e m) (unsigned_tied q k) ∙ ap (λ b. eqb q k && b) (unsigned_tied e m)

abbrev pub ties : ℕ × ℕ → ℕ × ℕ → Bool
ties p k = eq_by_cmp (entry_cmp nat_cmp) p k

both : (a b : Bool) → (a && b) ≡ true → (a ≡ true) × (b ≡ true)
both true true h = (refl, refl)
both true false h = cc
both false b h = cc

pub tied : (p k : ℕ × ℕ) → ties p k ≡ true → p ≡ k
tied (q, e) (k, m) h =
    let t = both (eqb q k) (eqb e m) (sym (same_entry q e k m) ∙ h) in
    let a : q ≡ k = eqb-true q k t.0 in
    let b : e ≡ m = eqb-true e m t.1 in
    ap (λ z. (z, e)) a ∙ ap (λ z. (k, z)) b

pub ties_self : (p : ℕ × ℕ) → ties p p ≡ true
ties_self (q, e) = same_entry q e q e ∙ ap (λ b. b && eqb e e) (eq-eqb q q refl) ∙ eq-eqb e e refl

-- ---- values by the places of their keys

abbrev pub finding : ℕ × ℕ → List (ℕ × ℕ) → List Value → Option Value
finding p ks vs = maps.find (entry_cmp nat_cmp) p (zip ks vs)

-- what is found stands at a place of its key
pub found_at : (ks : List (ℕ × ℕ)) (vs : List Value) (p : ℕ × ℕ) (v : Value) → finding p ks vs ≡ Some v → (n : ℕ) × ((slice_get ks n ≡ Some p) × (slice_get vs n ≡ Some v))
found_at [] vs p v h = cc
found_at (k ∷ ks) [] p v h = cc
found_at (k ∷ ks) (x ∷ vs) p v h = here (found_at ks vs p v) (ties p k) refl h
  where
    here : (finding p ks vs ≡ Some v → (n : ℕ) × ((slice_get ks n ≡ Some p) × (slice_get vs n ≡ Some v))) → (b : Bool) → ties p k ≡ b → cond b (Some x) (finding p ks vs) ≡ Some v → (n : ℕ) × ((slice_get (k ∷ ks) n ≡ Some p) × (slice_get (x ∷ vs) n ≡ Some v))
    here more true t e = (0, (ap Some (sym (tied p k t)), e))
    here more false t e = let r = more e in (suc r.0, (r.1.0, r.1.1))

abbrev pub IsOnlyAt : List (ℕ × ℕ) → ℕ × ℕ → ℕ → Type 0
IsOnlyAt ks p n = (m : ℕ) → slice_get ks m ≡ Some p → m ≡ n

same_choice : (b c : Bool) (v x : Value) (o r : Option Value) → o ≡ cond c (Some v) r → (b ≡ true → c ≡ true → ⊥) → cond b (Some x) o ≡ cond c (Some v) (cond b (Some x) r)
same_choice true true v x o r e ne = absurd (ne refl refl)
same_choice true false v x o r e ne = refl
same_choice false c v x o r e ne = e

over_first : (b : Bool) (v x : Value) (o : Option Value) → cond b (Some v) o ≡ cond b (Some v) (cond b (Some x) o)
over_first true v x o = refl
over_first false v x o = refl

-- a value is set at the only place of its key
pub finding-set : (ks : List (ℕ × ℕ)) (vs : List Value) (n : ℕ) (p : ℕ × ℕ) (v : Value) (q : ℕ × ℕ) → slice_get ks n ≡ Some p → IsOnlyAt ks p n → n < length vs →
    finding q ks (set vs n v) ≡ cond (ties q p) (Some v) (finding q ks vs)
finding-set [] vs n p v q h only l = cc
finding-set (k ∷ ks) [] n p v q h only l = absurd (omega arith)
finding-set (k ∷ ks) (x ∷ vs) zero p v q h only l =
    let e : k ≡ p = same_Some k p h in
    ap (λ z. cond (ties q z) (Some v) (finding q ks vs)) e ∙ over_first (ties q p) v x (finding q ks vs) ∙ ap (λ z. cond (ties q p) (Some v) (cond (ties q z) (Some x) (finding q ks vs))) (sym e)
finding-set (k ∷ ks) (x ∷ vs) (suc n) p v q h only l =
    same_choice (ties q k) (ties q p) v x (finding q ks (set vs n v)) (finding q ks vs)
    (finding-set ks vs n p v q h (λ m i. let s : suc m ≡ suc n = only (suc m) i in omega arith) (omega arith))
    (λ a b.
    let qk : q ≡ k = tied q k a in
    let qp : q ≡ p = tied q p b in
    let z : 0 ≡ suc n = only 0 (ap Some (sym qk ∙ qp)) in absurd (omega arith))

-- ---- the places of the entries of fields

pub cut : {X : Type 0} (xs ys : List X) (n : ℕ) (v : X) → slice_get (xs ++ ys) n ≡ Some v → (slice_get xs n ≡ Some v) ⊎ ((m : ℕ) × ((n ≡ length xs + m) × (slice_get ys m ≡ Some v)))
cut [] ys n v h = inr (n, (omega arith, h))
cut (x ∷ xs) ys zero v h = inl h
cut (x ∷ xs) ys (suc n) v h = elim (cut xs ys n v h) [ inl e ↦ inl e | inr r ↦ inr (r.0, (let a = r.1.0 in omega arith, r.1.1)) ]

pub length-positions_from : (q e n : ℕ) → length (positions_from q e n) ≡ n
length-positions_from q e zero = refl
length-positions_from q e (suc n) = let t = length-positions_from q (e + 1) n in omega arith

pub within_field : (k b m n q e : ℕ) → slice_get (positions_from k b m) n ≡ Some (q, e) → (q ≡ k) × ((e ≡ b + n) × (n < m))
within_field k b zero n q e h = cc
within_field k b (suc m) zero q e h = let t = some_pair_parts k q b e h in (sym t.0, (let u = t.1 in omega arith, omega arith))
within_field k b (suc m) (suc n) q e h = let t = within_field k (b + 1) m n q e h in let u = t.1.0 in let w = t.1.1 in (t.0, (omega arith, omega arith))

-- entries of the fields before that one
abbrev pub before : List FieldForm → ℕ → ℕ
before fs zero = 0
before [] (suc i) = 0
before (f ∷ fs) (suc i) = f.entries + before fs i

-- the n-th entry is entry e of field q, where the first field has the number k
pub record Stands (fs : List FieldForm) (k n q e : ℕ) : Type 0 where
  pub index : ℕ
  pub field : q ≡ k + index
  pub form : FieldForm
  pub is : slice_get fs index ≡ Some form
  pub first : 1 ≤ e
  pub last : e ≤ form.entries
  pub place : n ≡ before fs index + (e - 1)

pub stands : (fs : List FieldForm) (k n q e : ℕ) → slice_get (entries_from k fs) n ≡ Some (q, e) → Stands fs k n q e
stands [] k n q e h = cc
stands (f ∷ fs) k n q e h = elim (cut (positions_from k 1 f.entries) (entries_from (k + 1) fs) n (q, e) h) [
  | inl i ↦
      let t = within_field k 1 f.entries n q e i in let u = t.0 in let w = t.1.0 in let x = t.1.1 in
      record { index = 0; field = omega arith; form = f; is = refl; first = omega arith; last = omega arith; place = omega arith }
  | inr r ↦
      let t = stands fs (k + 1) r.0 q e r.1.1 in
      let u = t.field in let w = t.place in let a = r.1.0 in let c = length-positions_from k 1 f.entries in
      record { index = suc t.index; field = omega arith; form = t.form; is = t.is; first = t.first; last = t.last; place = omega arith }
]

-- an entry stands at one place
pub only_once : (fs : List FieldForm) (k : ℕ) (p : ℕ × ℕ) (n : ℕ) → slice_get (entries_from k fs) n ≡ Some p → IsOnlyAt (entries_from k fs) p n
only_once fs k (q, e) n h m i =
    let a = stands fs k n q e h in
    let b = stands fs k m q e i in
    let af = a.field in let bf = b.field in let ap' = a.place in let bp = b.place in
    let same : a.index ≡ b.index = omega arith in
    let s : before fs a.index ≡ before fs b.index = ap (before fs) same in omega arith

-- ---- by_entry

pub get-by_entry : (fs : List FieldForm) (vs : List Value) (p : ℕ × ℕ) → maps.get (by_entry fs vs) p ≡ finding p (entries_from 1 fs) vs
unfolding by_entry
get-by_entry fs vs p = maps.get-from_entries entries_total (zip (entries_from 1 fs) vs) p

-- what the map has stands in the list
pub there : (fs : List FieldForm) (vs : List Value) (p : ℕ × ℕ) (v : Value) → maps.get (by_entry fs vs) p ≡ Some v → (n : ℕ) × ((slice_get (entries_from 1 fs) n ≡ Some p) × (slice_get vs n ≡ Some v))
there fs vs p v h = found_at (entries_from 1 fs) vs p v (sym (get-by_entry fs vs p) ∙ h)

-- one value is written
pub by_entry-set : (fs : List FieldForm) (vs : List Value) (n : ℕ) (p : ℕ × ℕ) (v : Value) → slice_get (entries_from 1 fs) n ≡ Some p → n < length vs → by_entry fs (set vs n v) ≡ maps.insert (by_entry fs vs) p v
by_entry-set fs vs n p v h l = maps.same_map entries_total entries_same _ _ (λ q.
    get-by_entry fs (set vs n v) q ∙ finding-set (entries_from 1 fs) vs n p v q h (only_once fs 1 p n h) l
    ∙ sym (maps.get-insert entries_total (by_entry fs vs) p v q ∙ ap (λ o. cond (ties q p) (Some v) o) (get-by_entry fs vs q)))

pub at_only : (b : Bool) (x : Value) (o r : Option Value) → (b ≡ true → ⊥) → o ≡ r → cond b (Some x) o ≡ r
at_only true x o r h e = absurd (h refl)
at_only false x o r h e = e

pub finding_at : (ks : List (ℕ × ℕ)) (vs : List Value) (n : ℕ) (p : ℕ × ℕ) → slice_get ks n ≡ Some p → IsOnlyAt ks p n → finding p ks vs ≡ slice_get vs n
finding_at [] vs n p h only = cc
finding_at (k ∷ ks) [] n p h only = refl
finding_at (k ∷ ks) (x ∷ vs) zero p h only = ap (λ b. cond b (Some x) (finding p ks vs)) (ap (ties p) (same_Some k p h) ∙ ties_self p)
finding_at (k ∷ ks) (x ∷ vs) (suc n) p h only =
    at_only (ties p k) x (finding p ks vs) (slice_get vs n) (λ t. let z : 0 ≡ suc n = only 0 (ap Some (sym (tied p k t))) in absurd (omega arith))
    (finding_at ks vs n p h (λ m i. let s : suc m ≡ suc n = only (suc m) i in omega arith))

-- what stands at an entry's place is its value
pub value_here : (fs : List FieldForm) (vs : List Value) (n : ℕ) (p : ℕ × ℕ) → slice_get (entries_from 1 fs) n ≡ Some p → maps.get (by_entry fs vs) p ≡ slice_get vs n
value_here fs vs n p h = get-by_entry fs vs p ∙ finding_at (entries_from 1 fs) vs n p h (only_once fs 1 p n h)
