use Rattle.std.proofs.Common.{◌≡◌, ◌∙◌, ℕ, List, ap, sym, subst, rules}
use Rattle.rpg_program.specs.Kept.{storage_of}
use Rattle.rpg_store.specs.Area.{all_number_bytes, area_slots, parts, zeros, IsArea}
use Rattle.rpg_store.specs.declared.slot.Slot.{Slot}
use Rattle.rpg_store.proofs.FirstArea.{zeros_area}
use Rattle.rpg_store.proofs.flat.zeroed.Goals as goal

pub invariant_of-result : goal.invariant_of-result
invariant_of-result c =
    let fs = c.args.fields.now in
    let r : c.in_ok-slots.slots.items ≡ area_slots 0 (all_number_bytes fs) fs = c.in_ok-slots.ensures ∙ ap (λ d. area_slots 0 d fs) c.digits_in-digits.ensures in
    let a : c.in_ok-area.area.items ≡ zeros (storage_of fs) = search rules in
    subst (λ (xs : List ℕ). IsArea (parts c.in_ok-slots.slots.items) xs) (sym a) (subst (λ (slots : List Slot). IsArea (parts slots) (zeros (storage_of fs))) (sym r) (zeros_area fs c.requires.rows))
