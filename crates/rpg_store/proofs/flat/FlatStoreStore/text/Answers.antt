use Rattle.std.proofs.Common.{◌≡◌, length, slice_range, sym, ap, ◌∙◌, arith, Some}
use Rattle.rpg_program.specs.Values.{Text}
use Rattle.rpg_store.specs.Area.{bytes_in}
use Rattle.rpg_store.proofs.InArea.{found, is_entry, of_store, text_is}
use Rattle.rpg_store.proofs.Listing.{text_there}
use Rattle.rpg_store.proofs.flat.FlatStoreStore.text.Goals as goal

pub part_of-from-requires : goal.part_of-from-requires
part_of-from-requires c =
    let slots = c.self.inside.slots.items in
    let area = c.self.inside.area.items in
    let t = text_there _ c.requires in
    is_entry slots c.deref.result.now area c.args.field c.args.position _ c.deref.ensures.value (of_store slots area c.args.self.now c.args.field c.args.position _ c.self.view_is t.1)

pub bytes_between-requires-clause-high : goal.bytes_between-requires-clause-high
bytes_between-requires-clause-high c =
    let slots = c.self.inside.slots.items in
    let area = c.self.inside.area.items in
    let t = text_there _ c.requires in
    let f = found slots c.deref.result.now area c.args.self.now c.args.field c.args.position _ c.part_of-from.result.0 c.part_of-from.result.1 c.self.invariant c.self.view_is t.1 c.deref.ensures.value c.part_of-from.ensures.from c.part_of-from.ensures.to in
    let begins = f.begins in let ends = f.ends in let room = f.room in
    let l : length c.deref-2.result.now ≡ length area = ap length c.deref-2.ensures.value in omega arith

pub returns : goal.returns
returns c =
    let slots = c.self.inside.slots.items in
    let area = c.self.inside.area.items in
    let t = text_there _ c.requires in
    let f = found slots c.deref.result.now area c.args.self.now c.args.field c.args.position _ c.part_of-from.result.0 c.part_of-from.result.1 c.self.invariant c.self.view_is t.1 c.deref.ensures.value c.part_of-from.ensures.from c.part_of-from.ensures.to in
    let b : c.bytes_between.result.now ≡ bytes_in area f.at.part = c.bytes_between.ensures ∙ ap (λ xs. slice_range xs c.part_of-from.result.0 c.part_of-from.result.1) c.deref-2.ensures.value ∙ f.bytes in
    t.1 ∙ ap (λ xs. Some (Text xs)) (sym (b ∙ text_is slots area c.args.field c.args.position t.0 f.at))
