use Rattle.std.proofs.Common.{ap, sym, ◌∙◌, ◌+◌, ◌-◌, ◌*◌}
use Rattle.std.proofs.lemmas.Option.{get_or_from_slice_get}
use Rattle.rpg_store.specs.Area.{length_in}
use Rattle.rpg_store.specs.Slots.{slot_start}
use Rattle.rpg_store.specs.declared.slot.Slot.{Slot}
use Rattle.rpg_store.proofs.BySlot.{has_slot, slot_at_index}
use Rattle.rpg_store.proofs.flat.part_of.Goals as goal

pub overflow_sub-slot : goal.overflow_sub-slot
overflow_sub-slot c = let r = has_slot c.args.slots.now c.args.field c.args.position c.requires in r.low

pub bounds-slots-field : goal.bounds-slots-field
bounds-slots-field c = let r = has_slot c.args.slots.now c.args.field c.args.position c.requires in r.high

pub overflow_sub-from : goal.overflow_sub-from
overflow_sub-from c = let r = has_slot c.args.slots.now c.args.field c.args.position c.requires in r.first

pub returns-clause-from : goal.returns-clause-from
returns-clause-from c =
    let r = has_slot c.args.slots.now c.args.field c.args.position c.requires in
    ap (λ (x : Slot). x.first + (c.args.position - 1) * x.form.length) (get_or_from_slice_get c.args.slots.now (c.args.field - 1) r.slot _ r.is)
    ∙ ap (λ o. slot_start o + (c.args.position - 1) * length_in o) (sym (slot_at_index c.args.slots.now c.args.field r.low ∙ r.is))

pub returns-clause-to : goal.returns-clause-to
returns-clause-to c =
    let r = has_slot c.args.slots.now c.args.field c.args.position c.requires in
    ap (λ (x : Slot). x.first + (c.args.position - 1) * x.form.length + x.form.length) (get_or_from_slice_get c.args.slots.now (c.args.field - 1) r.slot _ r.is)
    ∙ ap (λ o. slot_start o + (c.args.position - 1) * length_in o + length_in o) (sym (slot_at_index c.args.slots.now c.args.field r.low ∙ r.is))
