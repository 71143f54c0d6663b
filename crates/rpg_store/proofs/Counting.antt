-- How many entries a table has, by its last field.
use Rattle.std.proofs.Common.{◌≡◌, ℕ, suc, ◌+◌, ◌-◌, List, [], ◌∷◌, length, Some, slice_get, sym, ap, ◌∙◌, arith}
use Rattle.std.proofs.lemmas.Option.{same_Some}
use Rattle.rpg_store.specs.Slots.{entries_count, forms_of, AreInOrder}
use Rattle.rpg_store.specs.declared.slot.Slot.{Slot}

-- the last field's entries end after those of all others
pub last_ends : (at : ℕ) (rs : List Slot) (r : Slot) → AreInOrder at rs → slice_get rs (length rs - 1) ≡ Some r → r.first + r.form.entries ≡ at + entries_count (forms_of rs)
last_ends at [] r ordered is = cc
last_ends at (q ∷ []) r ordered is =
    let same : q ≡ r = same_Some q r is in
    let first : q.first ≡ r.first = ap (λ (s : Slot). s.first) same in
    let entries : q.form.entries ≡ r.form.entries = ap (λ (s : Slot). s.form.entries) same in
    let place : q.first ≡ at = ordered.0 in
    omega arith
last_ends at (q ∷ s ∷ rs) r ordered is =
    let following : length (q ∷ s ∷ rs) - 1 ≡ suc (length (s ∷ rs) - 1) = omega arith in
    let others = last_ends (at + q.form.entries) (s ∷ rs) r ordered.1 (ap (slice_get (q ∷ s ∷ rs)) (sym following) ∙ is) in
    omega arith
