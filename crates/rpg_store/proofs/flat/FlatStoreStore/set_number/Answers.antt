use Rattle.std.proofs.Common.{◌≡◌, ◌<◌, ◌^◌, ℕ, ℤ, length, sym, ap, ◌∙◌, subst, arith, unsigned_abs}
use Rattle.std.proofs.Math.Facts.{to_z-of_z}
use Rattle.std.specs.FinMap as maps
use Rattle.rpg_program.specs.Forms.{form_at, length_of}
use Rattle.rpg_program.specs.Values.{Value, Number}
use Rattle.rpg_store.specs.Area.{bytes_in, parts, IsArea}
use Rattle.rpg_store.specs.Flat.{Flat, flat_contents}
use Rattle.rpg_store.specs.Slots.{currents, forms_of}
use Rattle.rpg_store.proofs.ByPart.{is_number, number_keeps, written_there}
use Rattle.rpg_store.proofs.InArea.{as_written_at, flat, found, is_entry, number_written, of_store, written}
use Rattle.rpg_store.proofs.Listing.{number_there}
use Rattle.rpg_store.proofs.flat.FlatStoreStore.set_number.Goals as goal

pub part_of-from-requires : goal.part_of-from-requires
part_of-from-requires c =
    let slots = c.self.inside.slots.items in
    let area = c.self.inside.area.items in
    let t = number_there _ c.requires.there in
    is_entry slots c.deref.result.now area c.args.field c.args.position _ c.deref.ensures.value (of_store slots area c.args.self.now c.args.field c.args.position _ c.self.view_is t.1)

pub slice_mut-requires-clause-in_bounds : goal.slice_mut-requires-clause-in_bounds
slice_mut-requires-clause-in_bounds c =
    let slots = c.self.inside.slots.items in
    let area = c.self.inside.area.items in
    let t = number_there _ c.requires.there in
    let f = found slots c.deref.result.now area c.args.self.now c.args.field c.args.position _ c.part_of-from.result.0 c.part_of-from.result.1 c.self.invariant c.self.view_is t.1 c.deref.ensures.value c.part_of-from.ensures.from c.part_of-from.ensures.to in
    let begins = f.begins in let ends = f.ends in let room = f.room in
    omega (arith, c.self.inside.area.ok.0)

pub write_zoned-requires-clause-low : goal.write_zoned-requires-clause-low
write_zoned-requires-clause-low c =
    let slots = c.self.inside.slots.items in
    let area = c.self.inside.area.items in
    let t = number_there _ c.requires.there in
    let f = found slots c.deref.result.now area c.args.self.now c.args.field c.args.position _ c.part_of-from.result.0 c.part_of-from.result.1 c.self.invariant c.self.view_is t.1 c.deref.ensures.value c.part_of-from.ensures.from c.part_of-from.ensures.to in
    let b : c.slice_mut.result.now ≡ bytes_in area f.at.part = c.slice_mut.ensures.value ∙ f.bytes in
    let l : length c.slice_mut.result.now ≡ f.at.part.len = ap length b ∙ f.long in
    let d = c.self.invariant.digits f.at.place f.at.part f.at.is (is_number slots area c.args.field c.args.position t.0 f.at) in
    omega (arith, d.0)

pub write_zoned-requires-clause-high : goal.write_zoned-requires-clause-high
write_zoned-requires-clause-high c =
    let slots = c.self.inside.slots.items in
    let area = c.self.inside.area.items in
    let t = number_there _ c.requires.there in
    let f = found slots c.deref.result.now area c.args.self.now c.args.field c.args.position _ c.part_of-from.result.0 c.part_of-from.result.1 c.self.invariant c.self.view_is t.1 c.deref.ensures.value c.part_of-from.ensures.from c.part_of-from.ensures.to in
    let b : c.slice_mut.result.now ≡ bytes_in area f.at.part = c.slice_mut.ensures.value ∙ f.bytes in
    let l : length c.slice_mut.result.now ≡ f.at.part.len = ap length b ∙ f.long in
    let d = c.self.invariant.digits f.at.place f.at.part f.at.is (is_number slots area c.args.field c.args.position t.0 f.at) in
    omega (arith, d.1)

pub write_zoned-requires-clause-fits : goal.write_zoned-requires-clause-fits
write_zoned-requires-clause-fits c =
    let slots = c.self.inside.slots.items in
    let area = c.self.inside.area.items in
    let t = number_there _ c.requires.there in
    let f = found slots c.deref.result.now area c.args.self.now c.args.field c.args.position _ c.part_of-from.result.0 c.part_of-from.result.1 c.self.invariant c.self.view_is t.1 c.deref.ensures.value c.part_of-from.ensures.from c.part_of-from.ensures.to in
    let b : c.slice_mut.result.now ≡ bytes_in area f.at.part = c.slice_mut.ensures.value ∙ f.bytes in
    let l : length c.slice_mut.result.now ≡ f.at.part.len = ap length b ∙ f.long in
    let k : length_of (form_at (forms_of c.args.self.now.slots) c.args.field) ≡ length c.slice_mut.result.now = ap (λ (s : Flat). length_of (form_at (forms_of s.slots) c.args.field)) (sym c.self.view_is) ∙ f.at.form ∙ sym l in
    subst (λ (n : ℤ). unsigned_abs n < 10 ^ length c.slice_mut.result.now) (sym (to_z-of_z c.ranges.n)) (subst (λ (m : ℕ). unsigned_abs c.args.n < 10 ^ m) k c.requires.length)

pub invariant_of-self : goal.invariant_of-self
invariant_of-self c =
    let slots = c.self.inside.slots.items in
    let area = c.self.inside.area.items in
    let t = number_there _ c.requires.there in
    let f = found slots c.deref.result.now area c.args.self.now c.args.field c.args.position _ c.part_of-from.result.0 c.part_of-from.result.1 c.self.invariant c.self.view_is t.1 c.deref.ensures.value c.part_of-from.ensures.from c.part_of-from.ensures.to in
    let b : c.slice_mut.result.now ≡ bytes_in area f.at.part = c.slice_mut.ensures.value ∙ f.bytes in
    let l : length c.slice_mut.result.now ≡ f.at.part.len = ap length b ∙ f.long in
    let w = c.write_zoned.new.text in
    let lw : length w ≡ length c.slice_mut.result.now = c.write_zoned.auto.text in
    let wr = written w _ (length c.slice_mut.result.now) c.write_zoned.ensures.text lw c.write_zoned.ensures.spells in
    subst (λ xs. IsArea (parts slots) xs) (sym (as_written_at c.self.inside.area.len f.at.part.at c.part_of-from.result.0 area w c.self.inside.area.ok.0 f.begins))
    (number_keeps (parts slots) area f.at.place f.at.part w c.self.invariant f.at.is (lw ∙ l) wr)

pub returns-clause-contents : goal.returns-clause-contents
returns-clause-contents c =
    let slots = c.self.inside.slots.items in
    let area = c.self.inside.area.items in
    let t = number_there _ c.requires.there in
    let f = found slots c.deref.result.now area c.args.self.now c.args.field c.args.position _ c.part_of-from.result.0 c.part_of-from.result.1 c.self.invariant c.self.view_is t.1 c.deref.ensures.value c.part_of-from.ensures.from c.part_of-from.ensures.to in
    let b : c.slice_mut.result.now ≡ bytes_in area f.at.part = c.slice_mut.ensures.value ∙ f.bytes in
    let l : length c.slice_mut.result.now ≡ f.at.part.len = ap length b ∙ f.long in
    let w = c.write_zoned.new.text in
    let lw : length w ≡ length c.slice_mut.result.now = c.write_zoned.auto.text in
    ap (λ xs. flat_contents (flat slots xs)) (as_written_at c.self.inside.area.len f.at.part.at c.part_of-from.result.0 area w c.self.inside.area.ok.0 f.begins)
    ∙ written_there slots area c.args.field c.args.position _ w c.self.invariant f.at (lw ∙ l)
    ∙ ap (λ (v : Value). maps.insert (flat_contents (flat slots area)) (c.args.field, c.args.position) v) (number_written f.at.part.kind w _ (is_number slots area c.args.field c.args.position t.0 f.at) c.write_zoned.ensures.spells ∙ ap Number (to_z-of_z c.ranges.n))
    ∙ ap (λ (s : Flat). maps.insert (flat_contents s) (c.args.field, c.args.position) (Number c.args.n)) c.self.view_is

pub returns-clause-currents : goal.returns-clause-currents
returns-clause-currents c =
    ap (λ (s : Flat). currents s.slots) c.self.view_is

pub returns-clause-forms : goal.returns-clause-forms
returns-clause-forms c =
    ap (λ (s : Flat). forms_of s.slots) c.self.view_is
