use Rattle.std.proofs.Common.{◌≡◌, length, refl, sym, ap, ◌∙◌, subst, arith, Some}
use Rattle.std.specs.FinMap as maps
use Rattle.rpg_program.specs.Values.{Value, Text}
use Rattle.rpg_store.specs.Area.{bytes_in, parts, start, IsArea}
use Rattle.rpg_store.specs.Flat.{Flat, flat_contents, flat_with_text, written_at}
use Rattle.rpg_store.proofs.ByPart.{is_text, text_keeps, written_there}
use Rattle.rpg_store.proofs.InArea.{as_written_at, flat, found, is_entry, of_store, text_is, text_written}
use Rattle.rpg_store.proofs.Listing.{text_there}
use Rattle.rpg_store.proofs.flat.FlatStoreStore.text_mut.Goals as goal

pub part_of-from-requires : goal.part_of-from-requires
part_of-from-requires c =
    let slots = c.self.inside.slots.items in
    let area = c.self.inside.area.items in
    let t = text_there _ c.requires in
    is_entry slots c.deref.result.now area c.args.field c.args.position _ c.deref.ensures.value (of_store slots area c.args.self.now c.args.field c.args.position _ c.self.view_is t.1)

pub slice_mut-requires-clause-in_bounds : goal.slice_mut-requires-clause-in_bounds
slice_mut-requires-clause-in_bounds c =
    let slots = c.self.inside.slots.items in
    let area = c.self.inside.area.items in
    let t = text_there _ c.requires in
    let f = found slots c.deref.result.now area c.args.self.now c.args.field c.args.position _ c.part_of-from.result.0 c.part_of-from.result.1 c.self.invariant c.self.view_is t.1 c.deref.ensures.value c.part_of-from.ensures.from c.part_of-from.ensures.to in
    let begins = f.begins in let ends = f.ends in let room = f.room in
    omega (arith, c.self.inside.area.ok.0)

pub invariant_of-self-lent : goal.invariant_of-self-lent
invariant_of-self-lent c w =
    let slots = c.self.inside.slots.items in
    let area = c.self.inside.area.items in
    let t = text_there _ c.requires in
    let f = found slots c.deref.result.now area c.args.self.now c.args.field c.args.position _ c.part_of-from.result.0 c.part_of-from.result.1 c.self.invariant c.self.view_is t.1 c.deref.ensures.value c.part_of-from.ensures.from c.part_of-from.ensures.to in
    subst (λ xs. IsArea (parts slots) xs) (sym (as_written_at c.self.inside.area.len f.at.part.at c.part_of-from.result.0 area w c.self.inside.area.ok.0 f.begins))
    (text_keeps (parts slots) area f.at.place f.at.part w c.self.invariant f.at.is (is_text slots area c.args.field c.args.position t.0 f.at))

pub returns : goal.returns
returns c =
    let slots = c.self.inside.slots.items in
    let area = c.self.inside.area.items in
    let t = text_there _ c.requires in
    let f = found slots c.deref.result.now area c.args.self.now c.args.field c.args.position _ c.part_of-from.result.0 c.part_of-from.result.1 c.self.invariant c.self.view_is t.1 c.deref.ensures.value c.part_of-from.ensures.from c.part_of-from.ensures.to in
    let b : c.slice_mut.result.now ≡ bytes_in area f.at.part = c.slice_mut.ensures.value ∙ f.bytes in
    let l : length c.slice_mut.result.now ≡ f.at.part.len = ap length b ∙ f.long in
    let begins : c.part_of-from.result.0 ≡ start slots (c.args.field, c.args.position) = f.begins ∙ f.at.begins in (
      (refl, λ w. ap (flat slots) (as_written_at c.self.inside.area.len (start slots (c.args.field, c.args.position)) c.part_of-from.result.0 area w c.self.inside.area.ok.0 begins) ∙ ap (λ (s : Flat). flat_with_text s c.args.field c.args.position w) c.self.view_is),
      record {
        writes_back = tt;
        value = t.1 ∙ ap (λ xs. Some (Text xs)) (sym (b ∙ text_is slots area c.args.field c.args.position t.0 f.at));
        contents = λ w h.
            ap (λ (s : Flat). flat_contents (flat_with_text s c.args.field c.args.position w)) (sym c.self.view_is)
            ∙ ap (λ k. flat_contents (flat slots (written_at area k w))) (sym f.at.begins)
            ∙ written_there slots area c.args.field c.args.position _ w c.self.invariant f.at (h ∙ l)
            ∙ ap (λ (v : Value). maps.insert (flat_contents (flat slots area)) (c.args.field, c.args.position) v) (text_written f.at.part.kind w (is_text slots area c.args.field c.args.position t.0 f.at))
            ∙ ap (λ (s : Flat). maps.insert (flat_contents s) (c.args.field, c.args.position) (Text w)) c.self.view_is;
        currents = λ w. refl;
        forms = λ w. refl;
      },
    )
