use Rattle.std.proofs.Common.{◌≡◌, ◌-◌, List, ap, ◌∙◌, arith, Some, true, map, slice_get}
use Rattle.std.proofs.lemmas.Option.{get_or_from_slice_get, slice_get_within}
use Rattle.std.specs.FinMap as maps
use Rattle.rpg_program.specs.declared.form.FieldForm.{FieldForm}
use Rattle.rpg_program.specs.Forms.{is_table}
use Rattle.rpg_store.specs.Contents.{by_entry}
use Rattle.rpg_store.specs.Listed.{Listed, paired_values, listed_contents}
use Rattle.rpg_store.specs.Slots.{currents, forms_of}
use Rattle.rpg_store.specs.declared.slot.Slot.{Slot}
use Rattle.rpg_store.proofs.BySlot.{forms-set, order-set}
use Rattle.rpg_store.proofs.Currents.{table_slot, current_put}
use Rattle.rpg_store.proofs.listed.ListedStoreStore.set_current.Goals as goal

pub overflow_sub-table : goal.overflow_sub-table
overflow_sub-table c = let t = table_slot c.args.self.now.slots c.args.table c.requires.table in t.0

pub index_mut-requires : goal.index_mut-requires
index_mut-requires c =
    let t = table_slot c.args.self.now.slots c.args.table c.requires.table in
    let s : c.self.inside.slots.items ≡ c.args.self.now.slots = ap (λ (x : Listed). x.slots) c.self.view_is in
    let w = slice_get_within c.self.inside.slots.items (c.args.table - 1) t.1.0 (ap (λ slots. slice_get slots (c.args.table - 1)) s ∙ t.1.1.0) in
    omega (arith, c.self.inside.slots.ok.0)

pub invariant_of-self : goal.invariant_of-self
invariant_of-self c =
    let t = table_slot c.args.self.now.slots c.args.table c.requires.table in
    let s : c.self.inside.slots.items ≡ c.args.self.now.slots = ap (λ (x : Listed). x.slots) c.self.view_is in
    let h : slice_get c.self.inside.slots.items (c.args.table - 1) ≡ Some t.1.0 = ap (λ slots. slice_get slots (c.args.table - 1)) s ∙ t.1.1.0 in
    let r : c.index_mut.result.now ≡ t.1.0 = c.index_mut.ensures.value ∙ get_or_from_slice_get c.self.inside.slots.items (c.args.table - 1) t.1.0 _ h in
    order-set c.self.inside.slots.items 0 (c.args.table - 1) t.1.0 _ c.self.invariant h (ap (λ (x : Slot). x.form) r) (ap (λ (x : Slot). x.first) r)

pub returns-clause-currents : goal.returns-clause-currents
returns-clause-currents c =
    let t = table_slot c.args.self.now.slots c.args.table c.requires.table in
    let s : c.self.inside.slots.items ≡ c.args.self.now.slots = ap (λ (x : Listed). x.slots) c.self.view_is in
    let h : slice_get c.self.inside.slots.items (c.args.table - 1) ≡ Some t.1.0 = ap (λ slots. slice_get slots (c.args.table - 1)) s ∙ t.1.1.0 in
    let r : c.index_mut.result.now ≡ t.1.0 = c.index_mut.ensures.value ∙ get_or_from_slice_get c.self.inside.slots.items (c.args.table - 1) t.1.0 _ h in
    let w = slice_get_within c.self.inside.slots.items (c.args.table - 1) t.1.0 h in
    let new : Slot = record { form = c.index_mut.result.now.form; first = c.index_mut.result.now.first; current = c.args.position } in
    let tab : is_table new.form.class ≡ true = ap (λ (x : Slot). is_table x.form.class) r ∙ t.1.1.1 in
    current_put c.self.inside.slots.items c.args.table new t.0 w tab
    ∙ ap (λ (x : Listed). maps.insert (currents x.slots) c.args.table c.args.position) c.self.view_is

pub returns-clause-contents : goal.returns-clause-contents
returns-clause-contents c =
    let t = table_slot c.args.self.now.slots c.args.table c.requires.table in
    let s : c.self.inside.slots.items ≡ c.args.self.now.slots = ap (λ (x : Listed). x.slots) c.self.view_is in
    let h : slice_get c.self.inside.slots.items (c.args.table - 1) ≡ Some t.1.0 = ap (λ slots. slice_get slots (c.args.table - 1)) s ∙ t.1.1.0 in
    let r : c.index_mut.result.now ≡ t.1.0 = c.index_mut.ensures.value ∙ get_or_from_slice_get c.self.inside.slots.items (c.args.table - 1) t.1.0 _ h in
    ap (λ (fs : List FieldForm). by_entry fs (paired_values (map (λ t'. t'.items) c.self.inside.texts.items) c.self.inside.numbers.items)) (forms-set c.self.inside.slots.items (c.args.table - 1) t.1.0 _ h (ap (λ (x : Slot). x.form) r))
    ∙ ap (λ (x : Listed). listed_contents x) c.self.view_is

pub returns-clause-forms : goal.returns-clause-forms
returns-clause-forms c =
    let t = table_slot c.args.self.now.slots c.args.table c.requires.table in
    let s : c.self.inside.slots.items ≡ c.args.self.now.slots = ap (λ (x : Listed). x.slots) c.self.view_is in
    let h : slice_get c.self.inside.slots.items (c.args.table - 1) ≡ Some t.1.0 = ap (λ slots. slice_get slots (c.args.table - 1)) s ∙ t.1.1.0 in
    let r : c.index_mut.result.now ≡ t.1.0 = c.index_mut.ensures.value ∙ get_or_from_slice_get c.self.inside.slots.items (c.args.table - 1) t.1.0 _ h in
    forms-set c.self.inside.slots.items (c.args.table - 1) t.1.0 _ h (ap (λ (x : Slot). x.form) r) ∙ ap (λ (x : Listed). forms_of x.slots) c.self.view_is
