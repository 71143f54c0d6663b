-- Entries by the table of slots.
use Rattle.std.proofs.Common.{◌≡◌, ℕ, zero, suc, ◌+◌, ◌-◌, ◌<◌, ◌≤◌, List, [], ◌∷◌, length, Some, slice_get, refl, sym, ap, ◌∙◌, subst, arith}
use Rattle.std.proofs.Math.ListN.{set}
use Rattle.std.proofs.lemmas.Option.{same_Some, slice_get_within}
use Rattle.rpg_program.specs.declared.form.FieldForm.{FieldForm}
use Rattle.rpg_store.specs.Contents.{IsEntry, entries_from}
use Rattle.rpg_store.specs.Slots.{forms_of, slot_start, slot_at, spot, AreInOrder}
use Rattle.rpg_store.specs.declared.slot.Slot.{Slot}
use Rattle.rpg_store.proofs.ByEntry.{before, stands}

-- an entry with the slot of its field
pub record HasSlot (slots : List Slot) (q e : ℕ) : Type 0 where
  pub low : 1 ≤ q
  pub high : q - 1 < length slots
  pub slot : Slot
  pub is : slice_get slots (q - 1) ≡ Some slot
  pub first : 1 ≤ e
  pub last : e ≤ slot.form.entries

slot_of : (slots : List Slot) (i : ℕ) (f : FieldForm) → slice_get (forms_of slots) i ≡ Some f → (r : Slot) × ((slice_get slots i ≡ Some r) × (f ≡ r.form))
slot_of [] i f h = cc
slot_of (r ∷ rs) zero f h = (r, (refl, sym (same_Some r.form f h)))
slot_of (r ∷ rs) (suc i) f h = slot_of rs i f h

pub has_slot : (slots : List Slot) (q e : ℕ) → IsEntry (forms_of slots) (q, e) → HasSlot slots q e
has_slot slots q e (n, h) =
    let s = stands (forms_of slots) 1 n q e h in
    let r = slot_of slots s.index s.form s.is in
    let f = s.field in
    let i : s.index ≡ q - 1 = omega arith in
    let is : slice_get slots (q - 1) ≡ Some r.0 = ap (slice_get slots) (sym i) ∙ r.1.0 in
    record { low = omega arith; high = slice_get_within slots (q - 1) r.0 is; slot = r.0; is = is; first = s.first; last = subst (λ (g : FieldForm). e ≤ g.entries) r.1.1 s.last }

in_order : (slots : List Slot) (at i : ℕ) (r : Slot) → AreInOrder at slots → slice_get slots i ≡ Some r → r.first ≡ at + before (forms_of slots) i
in_order [] at i r o h = cc
in_order (x ∷ rs) at zero r o h = ap (λ (z : Slot). z.first) (sym (same_Some x r h)) ∙ o.0 ∙ omega arith
in_order (x ∷ rs) at (suc i) r o h = let t = in_order rs (at + x.form.entries) i r o.1 h in omega arith

pub slot_at_index : (slots : List Slot) (q : ℕ) → 1 ≤ q → slot_at slots q ≡ slice_get slots (q - 1)
slot_at_index slots zero h = absurd (omega arith)
slot_at_index slots (suc k) h = let e : suc k - 1 ≡ k = omega arith in ap (slice_get slots) (sym e)

-- the place that the table gives, of the entry at that index of the table
pub spot_is : (slots : List Slot) (q e : ℕ) (r : Slot) → 1 ≤ q → slice_get slots (q - 1) ≡ Some r → spot slots (q, e) ≡ r.first + (e - 1)
spot_is slots q e r l h = ap (λ o. slot_start o + (e - 1)) (slot_at_index slots q l ∙ h)

-- where the slots are in order, it is the entry's place among all entries
pub spot_place : (slots : List Slot) (n q e : ℕ) → AreInOrder 0 slots → slice_get (entries_from 1 (forms_of slots)) n ≡ Some (q, e) → spot slots (q, e) ≡ n
spot_place slots n q e o h =
    let s = stands (forms_of slots) 1 n q e h in
    let r = slot_of slots s.index s.form s.is in
    let f = s.field in let p = s.place in
    let i : s.index ≡ q - 1 = omega arith in
    let l : 1 ≤ q = omega arith in
    let is : slice_get slots (q - 1) ≡ Some r.0 = ap (slice_get slots) (sym i) ∙ r.1.0 in
    let b = in_order slots 0 s.index r.0 o r.1.0 in
    spot_is slots q e r.0 l is ∙ omega arith

-- ---- one slot with another current entry

pub order-set : (slots : List Slot) (at n : ℕ) (x r : Slot) → AreInOrder at slots → slice_get slots n ≡ Some x → r.form ≡ x.form → r.first ≡ x.first → AreInOrder at (set slots n r)
order-set [] at n x r o h f g = o
order-set (y ∷ rs) at zero x r o h f g =
    let same : y ≡ x = same_Some y x h in
    (g ∙ ap (λ (z : Slot). z.first) (sym same) ∙ o.0, subst (λ (d : FieldForm). AreInOrder (at + d.entries) rs) (ap (λ (z : Slot). z.form) same ∙ sym f) o.1)
order-set (y ∷ rs) at (suc n) x r o h f g = (o.0, order-set rs (at + y.form.entries) n x r o.1 h f g)

pub forms-set : (slots : List Slot) (n : ℕ) (x r : Slot) → slice_get slots n ≡ Some x → r.form ≡ x.form → forms_of (set slots n r) ≡ forms_of slots
forms-set [] n x r h f = refl
forms-set (y ∷ rs) zero x r h f = ap (λ (d : FieldForm). d ∷ forms_of rs) (f ∙ ap (λ (z : Slot). z.form) (sym (same_Some y x h)))
forms-set (y ∷ rs) (suc n) x r h f = ap (λ ds. y.form ∷ ds) (forms-set rs n x r h f)
