use Rattle.std.proofs.Common.{◌≡◌, ℕ, List, Some, map, sym, ap, ◌∙◌, subst, arith}
use Rattle.std.proofs.lemmas.List.{length-map}
use Rattle.std.proofs.lemmas.Option.{slice_get_within}
use Rattle.rpg_program.specs.Values.{Text}
use Rattle.rpg_store.specs.Contents.{IsEntry}
use Rattle.rpg_store.specs.Slots.{forms_of, spot}
use Rattle.rpg_store.specs.declared.slot.Slot.{Slot}
use Rattle.rpg_store.proofs.Listing.{of_store, text_at, text_read, text_there}
use Rattle.rpg_store.proofs.listed.ListedStoreStore.text.Goals as goal

pub place-requires : goal.place-requires
place-requires c =
    let slots = c.self.inside.slots.items in
    let ts : List (List ℕ) = map (λ t. t.items) c.self.inside.texts.items in
    let ns = c.self.inside.numbers.items in
    let t = text_there _ c.requires in
    let a = of_store slots ts ns c.args.self.now c.args.field c.args.position _ c.self.view_is c.self.invariant t.1 in
    subst (λ (rs : List Slot). IsEntry (forms_of rs) (c.args.field, c.args.position)) (sym c.deref.ensures.value) a.entry

pub index-requires : goal.index-requires
index-requires c =
    let slots = c.self.inside.slots.items in
    let ts : List (List ℕ) = map (λ t. t.items) c.self.inside.texts.items in
    let ns = c.self.inside.numbers.items in
    let t = text_there _ c.requires in
    let a = of_store slots ts ns c.args.self.now c.args.field c.args.position _ c.self.view_is c.self.invariant t.1 in
    let p : c.place.result ≡ spot slots (c.args.field, c.args.position) = c.place.ensures ∙ ap (λ rs. spot rs (c.args.field, c.args.position)) c.deref.ensures.value in
    let h = text_at slots ts ns c.args.field c.args.position t.0 c.place.result a p in
    let w = slice_get_within ts c.place.result _ h in
    let l = length-map c.self.inside.texts.items (λ t. t.items) in
    omega arith

pub returns : goal.returns
returns c =
    let slots = c.self.inside.slots.items in
    let ts : List (List ℕ) = map (λ t. t.items) c.self.inside.texts.items in
    let ns = c.self.inside.numbers.items in
    let t = text_there _ c.requires in
    let a = of_store slots ts ns c.args.self.now c.args.field c.args.position _ c.self.view_is c.self.invariant t.1 in
    let p : c.place.result ≡ spot slots (c.args.field, c.args.position) = c.place.ensures ∙ ap (λ rs. spot rs (c.args.field, c.args.position)) c.deref.ensures.value in
    let h = text_at slots ts ns c.args.field c.args.position t.0 c.place.result a p in
    let r = text_read c.self.inside.texts.items c.place.result t.0 c.index.result.now h c.index.ensures in
    t.1 ∙ ap (λ w. Some (Text w)) (sym r ∙ sym c.as_slice.ensures.value)
