use Rattle.std.proofs.Common.{List, sym, ap, ◌∙◌, subst}
use Rattle.rpg_program.specs.declared.form.FieldForm.{FieldForm}
use Rattle.rpg_store.proofs.BySlot.{spot_place}
use Rattle.rpg_store.specs.Contents.{IsEntry, IsEntryAt}
use Rattle.rpg_store.specs.Slots.{forms_of, spot}
use Rattle.rpg_store.specs.declared.slot.Slot.{Slot}
use Rattle.rpg_store.proofs.placing.EntryPlaces.place_of.Goals as goal

pub place-requires : goal.place-requires
place-requires c =
    subst (λ (slots : List Slot). IsEntry (forms_of slots) (c.args.field, c.args.position)) (sym c.deref.ensures.value)
    (subst (λ (fs : List FieldForm). IsEntry fs (c.args.field, c.args.position)) (sym c.self.view_is) c.requires)

pub returns : goal.returns
returns c =
    let slots = c.self.inside.slots.items in
    let there : IsEntry (forms_of slots) (c.args.field, c.args.position) = subst (λ (fs : List FieldForm). IsEntry fs (c.args.field, c.args.position)) (sym c.self.view_is) c.requires in
    let by_table = c.place.ensures ∙ ap (λ (s : List Slot). spot s (c.args.field, c.args.position)) c.deref.ensures.value ∙ spot_place slots there.0 c.args.field c.args.position c.self.invariant there.1 in
    subst (λ (fs : List FieldForm). IsEntryAt fs c.place.result (c.args.field, c.args.position)) c.self.view_is
    (subst (λ n. IsEntryAt (forms_of slots) n (c.args.field, c.args.position)) (sym by_table) there.1)
