use Rattle.std.proofs.Common.{◌≡◌, ◌-◌, sym, ap, ◌∙◌, arith, slice_get, unwrap_or}
use Rattle.std.proofs.lemmas.Option.{get_or_from_slice_get, slice_get_within}
use Rattle.rpg_store.specs.Flat.{Flat}
use Rattle.rpg_store.specs.declared.slot.Slot.{Slot}
use Rattle.rpg_store.proofs.Currents.{table_slot, slot_current}
use Rattle.rpg_store.proofs.flat.FlatStoreStore.current.Goals as goal

pub overflow_sub-table : goal.overflow_sub-table
overflow_sub-table c = let t = table_slot c.args.self.now.slots c.args.table c.requires in t.0

pub index-requires : goal.index-requires
index-requires c =
    let t = table_slot c.args.self.now.slots c.args.table c.requires in
    let s : c.self.inside.slots.items ≡ c.args.self.now.slots = ap (λ (x : Flat). x.slots) c.self.view_is in
    let w = slice_get_within c.self.inside.slots.items (c.args.table - 1) t.1.0 (ap (λ slots. slice_get slots (c.args.table - 1)) s ∙ t.1.1.0) in
    omega (arith, c.self.inside.slots.ok.0)

pub returns : goal.returns
returns c =
    let t = table_slot c.args.self.now.slots c.args.table c.requires in
    let s : c.self.inside.slots.items ≡ c.args.self.now.slots = ap (λ (x : Flat). x.slots) c.self.view_is in
    let r : c.index.result.now ≡ t.1.0 = c.index.ensures ∙ get_or_from_slice_get c.self.inside.slots.items (c.args.table - 1) t.1.0 _ (ap (λ slots. slice_get slots (c.args.table - 1)) s ∙ t.1.1.0) in
    sym (ap (λ o. unwrap_or o 1) (slot_current c.args.self.now.slots c.args.table t.1.0 t.0 t.1.1.0 t.1.1.1) ∙ ap (λ (x : Slot). x.current) (sym r))
