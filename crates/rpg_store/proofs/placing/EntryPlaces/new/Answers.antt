use Rattle.std.proofs.Common.{◌≤◌, List, sym, ap, ◌∙◌, subst, arith}
use Rattle.rpg_program.specs.declared.form.FieldForm.{FieldForm}
use Rattle.rpg_store.specs.Slots.{entries_count, forms_of, AreInOrder}
use Rattle.rpg_store.specs.declared.slot.Slot.{Slot}
use Rattle.rpg_store.proofs.FirstSlots.{entries_few, forms_from, order_from}
use Rattle.rpg_store.proofs.placing.EntryPlaces.new.Goals as goal

pub slots_of-requires : goal.slots_of-requires
slots_of-requires c =
    let p = c.requires in
    let e = entries_few c.args.rows.now.fields.items p.fields in
    let s = p.storage in
    subst (λ (fs : List FieldForm). entries_count fs ≤ 65535) (sym c.deref.ensures.value) (omega (arith, e, s))

pub invariant_of-result : goal.invariant_of-result
invariant_of-result c = subst (λ (slots : List Slot). AreInOrder 0 slots) (sym c.in_ok-slots.ensures) (order_from 0 c.deref.result.now)

pub returns : goal.returns
returns c = ap forms_of c.in_ok-slots.ensures ∙ forms_from 0 c.deref.result.now ∙ c.deref.ensures.value
