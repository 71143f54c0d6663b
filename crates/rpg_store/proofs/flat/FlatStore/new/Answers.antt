use Rattle.std.proofs.Common.{◌≡◌, List, map, length, sym, ap, ◌∙◌, subst, arith}
use Rattle.std.proofs.lemmas.List.{length-map}
use Rattle.rpg_program.specs.Values.{Value, entries_held}
use Rattle.rpg_program.specs.Kept.{storage_of}
use Rattle.rpg_program.specs.Object.{Object}
use Rattle.rpg_store.specs.Area.{all_number_bytes, area_slots, zeros}
use Rattle.rpg_store.specs.Filling.{with_field_values, MayTakeFields}
use Rattle.rpg_store.specs.Flat.{Flat, flat_contents}
use Rattle.rpg_store.specs.Slots.{currents, forms_of}
use Rattle.rpg_store.proofs.FirstValues.{currents_area, few_values, first_filled, first_flat, forms_area, may_take_first}
use Rattle.rpg_store.proofs.InArea.{flat}
use Rattle.rpg_store.proofs.flat.FlatStore.new.Goals as goal

pub put_all-requires-clause-few : goal.put_all-requires-clause-few
put_all-requires-clause-few c =
    let p = c.rows-tables.ensures.kept in
    let n = few_values c.args.program.now.fields c.args.program.now.values p.values in
    let f = p.few_fields in
    let d : length c.deref-2.result.now ≡ length c.args.program.now.values = ap length c.deref-2.ensures.value ∙ sym (length-map c.rows-tables.result.now.values.items _) ∙ ap (λ (o : Object). length o.values) c.rows-tables.ensures.same in
    omega arith

pub put_all-requires-clause-like : goal.put_all-requires-clause-like
put_all-requires-clause-like c =
    let p = c.rows-tables.ensures.kept in
    let g = c.args.program.now.fields in
    let f : c.deref.result.now ≡ g = c.deref.ensures.value ∙ ap (λ (o : Object). o.fields) c.rows-tables.ensures.same in
    let v : map entries_held c.deref-2.result.now ≡ c.args.program.now.values = ap (map entries_held) c.deref-2.ensures.value ∙ ap (λ (o : Object). o.values) c.rows-tables.ensures.same in
    let s : c.in_ok-store.store ≡ first_flat g = ap (λ xs. flat xs c.in_ok-store.store.area) (c.in_ok-store.ensures.slots ∙ ap (λ fs. area_slots 0 (all_number_bytes fs) fs) f) ∙ ap (flat (area_slots 0 (all_number_bytes g) g)) (c.in_ok-store.ensures.area ∙ ap (λ fs. zeros (storage_of fs)) f) in
    subst (λ (x : Flat). MayTakeFields (forms_of x.slots) (flat_contents x) (map entries_held c.deref-2.result.now)) (sym s)
    (subst (λ (vss : List (List Value)). MayTakeFields (forms_of (first_flat g).slots) (flat_contents (first_flat g)) vss) (sym v) (may_take_first g c.args.program.now.values p.fields p.values))

pub returns-clause-forms : goal.returns-clause-forms
returns-clause-forms c =
    let f : c.deref.result.now ≡ c.args.program.now.fields = c.deref.ensures.value ∙ ap (λ (o : Object). o.fields) c.rows-tables.ensures.same in
    c.put_all.ensures.forms ∙ ap forms_of c.in_ok-store.ensures.slots ∙ forms_area 0 (all_number_bytes c.deref.result.now) c.deref.result.now ∙ f

pub returns-clause-contents : goal.returns-clause-contents
returns-clause-contents c =
    let p = c.rows-tables.ensures.kept in
    let g = c.args.program.now.fields in
    let f : c.deref.result.now ≡ g = c.deref.ensures.value ∙ ap (λ (o : Object). o.fields) c.rows-tables.ensures.same in
    let v : map entries_held c.deref-2.result.now ≡ c.args.program.now.values = ap (map entries_held) c.deref-2.ensures.value ∙ ap (λ (o : Object). o.values) c.rows-tables.ensures.same in
    let s : c.in_ok-store.store ≡ first_flat g = ap (λ xs. flat xs c.in_ok-store.store.area) (c.in_ok-store.ensures.slots ∙ ap (λ fs. area_slots 0 (all_number_bytes fs) fs) f) ∙ ap (flat (area_slots 0 (all_number_bytes g) g)) (c.in_ok-store.ensures.area ∙ ap (λ fs. zeros (storage_of fs)) f) in
    c.put_all.ensures.contents
    ∙ ap (λ (x : Flat). with_field_values (flat_contents x) 1 (map entries_held c.deref-2.result.now)) s
    ∙ ap (with_field_values (flat_contents (first_flat g)) 1) v
    ∙ first_filled g c.args.program.now.values p.values

pub returns-clause-currents : goal.returns-clause-currents
returns-clause-currents c =
    let f : c.deref.result.now ≡ c.args.program.now.fields = c.deref.ensures.value ∙ ap (λ (o : Object). o.fields) c.rows-tables.ensures.same in
    c.put_all.ensures.currents ∙ ap currents c.in_ok-store.ensures.slots ∙ currents_area 0 (all_number_bytes c.deref.result.now) c.deref.result.now c.args.program.now f
