use Rattle.std.proofs.Common.{◌≡◌, ◌≤◌, List, map, sym, ap, ◌∙◌, subst, arith}
use Rattle.rpg_program.specs.Values.{entries_held}
use Rattle.rpg_program.specs.declared.form.FieldForm.{FieldForm}
use Rattle.rpg_program.specs.Object.{Object}
use Rattle.rpg_store.specs.Contents.{by_entry}
use Rattle.rpg_store.specs.First.{joined_values}
use Rattle.rpg_store.specs.Listed.{paired_values, number_part, text_part}
use Rattle.rpg_store.specs.Slots.{currents, entries_count, forms_of, AreInOrder}
use Rattle.rpg_store.specs.declared.slot.Slot.{Slot}
use Rattle.rpg_store.proofs.FirstSlots.{currents_first, entries_few, forms_from, order_from}
use Rattle.rpg_store.proofs.Listing.{flat_map_joined, joined_first}
use Rattle.rpg_store.proofs.listed.ListedStore.new.Goals as goal

pub slots_of-requires : goal.slots_of-requires
slots_of-requires c =
    let p = c.rows-tables.ensures.kept in
    let e = entries_few c.args.program.now.fields p.fields in
    let s = p.storage in
    let same : c.deref.result.now ≡ c.args.program.now.fields = c.deref.ensures.value ∙ ap (λ (o : Object). o.fields) c.rows-tables.ensures.same in
    subst (λ (fs : List FieldForm). entries_count fs ≤ 65535) (sym same) (omega arith)

pub invariant_of-result : goal.invariant_of-result
invariant_of-result c = subst (λ (slots : List Slot). AreInOrder 0 slots) (sym c.in_ok-slots.ensures) (order_from 0 c.deref.result.now)

pub entries_count-count-requires : goal.entries_count-count-requires
entries_count-count-requires c = subst (λ (slots : List Slot). AreInOrder 0 slots) (sym (c.deref-2.ensures.value ∙ c.in_ok-slots.ensures)) (order_from 0 c.deref.result.now)

pub returns-clause-forms : goal.returns-clause-forms
returns-clause-forms c =
    let same : c.deref.result.now ≡ c.args.program.now.fields = c.deref.ensures.value ∙ ap (λ (o : Object). o.fields) c.rows-tables.ensures.same in
    ap forms_of c.in_ok-slots.ensures ∙ forms_from 0 c.deref.result.now ∙ same

pub returns-clause-contents : goal.returns-clause-contents
returns-clause-contents c =
    let p = c.rows-tables.ensures.kept in
    let values = joined_values c.args.program.now.values in
    let same : c.deref.result.now ≡ c.args.program.now.fields = c.deref.ensures.value ∙ ap (λ (o : Object). o.fields) c.rows-tables.ensures.same in
    let texts : map (λ t. t.items) c.in_ok-texts.texts.items ≡ map text_part values =
    c.in_ok-texts.ensures ∙ flat_map_joined text_part entries_held c.deref-4.result.now
    ∙ ap (λ us. map text_part (joined_values (map entries_held us))) c.deref-4.ensures.value ∙ ap (λ (o : Object). map text_part (joined_values o.values)) c.rows-tables.ensures.same in
    let numbers : c.in_ok-numbers.numbers.items ≡ map number_part values =
    c.in_ok-numbers.ensures ∙ flat_map_joined number_part entries_held c.deref-3.result.now
    ∙ ap (λ us. map number_part (joined_values (map entries_held us))) c.deref-3.ensures.value ∙ ap (λ (o : Object). map number_part (joined_values o.values)) c.rows-tables.ensures.same in
    ap (λ fs. by_entry fs (paired_values (map (λ t. t.items) c.in_ok-texts.texts.items) c.in_ok-numbers.numbers.items)) (ap forms_of c.in_ok-slots.ensures ∙ forms_from 0 c.deref.result.now ∙ same)
    ∙ ap (by_entry c.args.program.now.fields) (ap (λ ts. paired_values ts c.in_ok-numbers.numbers.items) texts ∙ ap (λ ns. paired_values (map text_part values) ns) numbers ∙ joined_first c.args.program.now.fields c.args.program.now.values p.fields p.values)

pub returns-clause-currents : goal.returns-clause-currents
returns-clause-currents c =
    ap currents c.in_ok-slots.ensures ∙ currents_first 0 c.deref.result.now c.args.program.now (c.deref.ensures.value ∙ ap (λ (o : Object). o.fields) c.rows-tables.ensures.same)
