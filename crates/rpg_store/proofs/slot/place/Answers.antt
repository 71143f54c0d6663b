use Rattle.std.proofs.Common.{ap, sym, ◌∙◌, ◌+◌, ◌-◌}
use Rattle.std.proofs.lemmas.Option.{get_or_from_slice_get}
use Rattle.rpg_store.specs.declared.slot.Slot.{Slot}
use Rattle.rpg_store.proofs.BySlot.{has_slot, spot_is}
use Rattle.rpg_store.proofs.slot.place.Goals as goal

pub overflow_sub-slot : goal.overflow_sub-slot
overflow_sub-slot c = let r = has_slot c.args.slots.now c.args.field c.args.position c.requires in r.low

pub bounds-slots-field : goal.bounds-slots-field
bounds-slots-field c = let r = has_slot c.args.slots.now c.args.field c.args.position c.requires in r.high

pub overflow_sub-result : goal.overflow_sub-result
overflow_sub-result c = let r = has_slot c.args.slots.now c.args.field c.args.position c.requires in r.first

pub returns : goal.returns
returns c =
    let r = has_slot c.args.slots.now c.args.field c.args.position c.requires in
    ap (λ (x : Slot). x.first + (c.args.position - 1)) (get_or_from_slice_get c.args.slots.now (c.args.field - 1) r.slot _ r.is)
    ∙ sym (spot_is c.args.slots.now c.args.field c.args.position r.slot r.low r.is)
