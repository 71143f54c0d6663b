-- The current entries of tables, as a finite map.
use Rattle.std.proofs.Common.{◌≡◌, ◌≢◌, ℕ, zero, suc, ◌+◌, ◌-◌, ◌<◌, ◌≤◌, Bool, true, false, cond, eqb, List, [], ◌∷◌, length, Option, None, Some, slice_get, refl, sym, ap, ◌∙◌, arith, eq-eqb, ne_eqb, eqb-true, nat_cmp}
use Rattle.std.proofs.Math.ListN.{set}
use Rattle.std.proofs.lemmas.Option.{slice_get-map}
use Rattle.std.specs.Cmp.{nat_cmp_total, unsigned_tied}
use Rattle.std.specs.FinMap as maps
use Rattle.std.specs.Option.{option_map}
use Rattle.rpg_program.specs.Forms.{form_at, is_table, is_table_form}
use Rattle.rpg_store.specs.Slots.{currents, currents_from, forms_of}
use Rattle.rpg_store.specs.declared.slot.Slot.{Slot}

abbrev pub finding : ℕ → ℕ → List Slot → Option ℕ
finding q k slots = maps.find nat_cmp q (currents_from k slots)

-- the current entry in a slot
abbrev pub current_in : Option Slot → Option ℕ
current_in None = None
current_in (Some r) = cond (is_table r.form.class) (Some r.current) None

below : (slots : List Slot) (k q : ℕ) → q < k → finding q k slots ≡ None
below [] k q h = refl
below (r ∷ rs) k q h = here (below rs (k + 1) q (omega arith)) (is_table r.form.class)
  where
    here : finding q (k + 1) rs ≡ None → (t : Bool) → maps.find nat_cmp q (cond t ((k, r.current) ∷ currents_from (k + 1) rs) (currents_from (k + 1) rs)) ≡ None
    here more true = ap (λ b. cond b (Some r.current) (finding q (k + 1) rs)) (unsigned_tied q k ∙ ne_eqb q k (λ i. omega arith)) ∙ more
    here more false = more

from_slot : (slots : List Slot) (k q n : ℕ) → k + n ≡ q → finding q k slots ≡ current_in (slice_get slots n)
from_slot [] k q n h = refl
from_slot (r ∷ rs) k q zero h = here (is_table r.form.class)
  where
    here : (t : Bool) → maps.find nat_cmp q (cond t ((k, r.current) ∷ currents_from (k + 1) rs) (currents_from (k + 1) rs)) ≡ cond t (Some r.current) None
    here true = ap (λ b. cond b (Some r.current) (finding q (k + 1) rs)) (unsigned_tied q k ∙ eq-eqb q k (omega arith))
    here false = below rs (k + 1) q (omega arith)
from_slot (r ∷ rs) k q (suc n) h = here (from_slot rs (k + 1) q n (omega arith)) (is_table r.form.class)
  where
    here : finding q (k + 1) rs ≡ current_in (slice_get rs n) → (t : Bool) → maps.find nat_cmp q (cond t ((k, r.current) ∷ currents_from (k + 1) rs) (currents_from (k + 1) rs)) ≡ current_in (slice_get rs n)
    here more true = ap (λ b. cond b (Some r.current) (finding q (k + 1) rs)) (unsigned_tied q k ∙ ne_eqb q k (λ i. omega arith)) ∙ more
    here more false = more

abbrev pub current_at : List Slot → ℕ → Option ℕ
current_at slots zero = None
current_at slots (suc n) = current_in (slice_get slots n)

pub get-currents : (slots : List Slot) (q : ℕ) → maps.get (currents slots) q ≡ current_at slots q
unfolding currents
get-currents slots zero = maps.get-from_entries nat_cmp_total (currents_from 1 slots) 0 ∙ below slots 1 0 (omega arith)
get-currents slots (suc n) = maps.get-from_entries nat_cmp_total (currents_from 1 slots) (suc n) ∙ from_slot slots 1 (suc n) n (omega arith)

-- a table with its slot
pub table_slot : (slots : List Slot) (q : ℕ) → is_table_form (form_at (forms_of slots) q) ≡ true → (1 ≤ q) × ((r : Slot) × ((slice_get slots (q - 1) ≡ Some r) × (is_table r.form.class ≡ true)))
table_slot slots zero h = cc
table_slot slots (suc n) h =
    let t = in_slot (slice_get slots n) (ap is_table_form (sym (slice_get-map (λ (r : Slot). r.form) slots n)) ∙ h) in
    let e : suc n - 1 ≡ n = omega arith in
    (omega arith, (t.0, (ap (slice_get slots) e ∙ t.1.0, t.1.1)))
  where
    in_slot : (o : Option Slot) → is_table_form (option_map (λ (r : Slot). r.form) o) ≡ true → (r : Slot) × ((o ≡ Some r) × (is_table r.form.class ≡ true))
    in_slot None i = cc
    in_slot (Some r) i = (r, (refl, i))

set_same : (slots : List Slot) (n : ℕ) (r : Slot) → n < length slots → slice_get (set slots n r) n ≡ Some r
set_same [] n r h = absurd (omega arith)
set_same (x ∷ rs) zero r h = refl
set_same (x ∷ rs) (suc n) r h = set_same rs n r (omega arith)

set_other : (slots : List Slot) (n q : ℕ) (r : Slot) → q ≢ n → slice_get (set slots n r) q ≡ slice_get slots q
set_other [] n q r h = refl
set_other (x ∷ rs) zero zero r h = absurd (h refl)
set_other (x ∷ rs) zero (suc q) r h = refl
set_other (x ∷ rs) (suc n) zero r h = refl
set_other (x ∷ rs) (suc n) (suc q) r h = set_other rs n q r (λ e. h (ap suc e))

set_at : (slots : List Slot) (n : ℕ) (r : Slot) → n < length slots → is_table r.form.class ≡ true → (q : ℕ) → current_at (set slots n r) q ≡ cond (eqb q (suc n)) (Some r.current) (current_at slots q)
set_at slots n r l t zero = ap (λ b. cond b (Some r.current) None) (sym (ne_eqb 0 (suc n) (λ e. absurd (omega arith))))
set_at slots n r l t (suc q) = here (eqb (suc q) (suc n)) refl
  where
    here : (b : Bool) → eqb (suc q) (suc n) ≡ b → current_in (slice_get (set slots n r) q) ≡ cond b (Some r.current) (current_in (slice_get slots q))
    here true e =
        let same : suc q ≡ suc n = eqb-true (suc q) (suc n) e in
        let is : q ≡ n = omega arith in
        ap (λ i. current_in (slice_get (set slots n r) i)) is ∙ ap current_in (set_same slots n r l) ∙ ap (λ b. cond b (Some r.current) None) t
    here false e = ap current_in (set_other slots n q r (λ same. let f : eqb (suc q) (suc n) ≡ true = eq-eqb (suc q) (suc n) (ap suc same) in cc))

-- one table's current entry is set
pub currents-set : (slots : List Slot) (n : ℕ) (r : Slot) → n < length slots → is_table r.form.class ≡ true → currents (set slots n r) ≡ maps.insert (currents slots) (suc n) r.current
currents-set slots n r l t = maps.same_map nat_cmp_total maps.nat_cmp-IsAntisymmetric _ _ (λ q.
    get-currents (set slots n r) q ∙ set_at slots n r l t q
    ∙ sym (maps.get-insert nat_cmp_total (currents slots) (suc n) r.current q ∙ ap (λ b. cond b (Some r.current) (maps.get (currents slots) q)) (unsigned_tied q (suc n)) ∙ ap (λ o. cond (eqb q (suc n)) (Some r.current) o) (get-currents slots q)))

-- the current entry of a table is that of its slot
pub slot_current : (slots : List Slot) (q : ℕ) (r : Slot) → 1 ≤ q → slice_get slots (q - 1) ≡ Some r → is_table r.form.class ≡ true → maps.get (currents slots) q ≡ Some r.current
slot_current slots zero r l h t = absurd (omega arith)
slot_current slots (suc n) r l h t =
    let e : suc n - 1 ≡ n = omega arith in
    get-currents slots (suc n) ∙ ap current_in (ap (slice_get slots) (sym e) ∙ h) ∙ ap (λ b. cond b (Some r.current) None) t

pub current_put : (slots : List Slot) (q : ℕ) (r : Slot) → 1 ≤ q → q - 1 < length slots → is_table r.form.class ≡ true → currents (set slots (q - 1) r) ≡ maps.insert (currents slots) q r.current
current_put slots zero r l h t = absurd (omega arith)
current_put slots (suc n) r l h t =
    let e : suc n - 1 ≡ n = omega arith in
    ap (λ i. currents (set slots i r)) e ∙ currents-set slots n r (omega arith) t
