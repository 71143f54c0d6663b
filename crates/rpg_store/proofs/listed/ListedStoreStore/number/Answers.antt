use Rattle.std.proofs.Common.{◌≡◌, ℕ, List, Some, map, sym, ap, ◌∙◌, subst, arith, rules}
use Rattle.std.proofs.lemmas.Option.{get_or_from_slice_get, slice_get_within}
use Rattle.rpg_program.specs.Values.{Number}
use Rattle.rpg_store.specs.Contents.{IsEntry}
use Rattle.rpg_store.specs.Slots.{forms_of, spot}
use Rattle.rpg_store.specs.declared.slot.Slot.{Slot}
use Rattle.rpg_store.proofs.Listing.{of_store, number_at, number_there}
use Rattle.rpg_store.proofs.listed.ListedStoreStore.number.Goals as goal

pub place-requires : goal.place-requires
place-requires c =
    let slots = c.self.inside.slots.items in
    let ts : List (List ℕ) = map (λ t. t.items) c.self.inside.texts.items in
    let ns = c.self.inside.numbers.items in
    let t = number_there _ c.requires in
    let a = of_store slots ts ns c.args.self.now c.args.field c.args.position _ c.self.view_is c.self.invariant t.1 in
    subst (λ (rs : List Slot). IsEntry (forms_of rs) (c.args.field, c.args.position)) (sym c.deref.ensures.value) a.entry

pub index-requires : goal.index-requires
index-requires c =
    let slots = c.self.inside.slots.items in
    let ts : List (List ℕ) = map (λ t. t.items) c.self.inside.texts.items in
    let ns = c.self.inside.numbers.items in
    let t = number_there _ c.requires in
    let a = of_store slots ts ns c.args.self.now c.args.field c.args.position _ c.self.view_is c.self.invariant t.1 in
    let p : c.place.result ≡ spot slots (c.args.field, c.args.position) = c.place.ensures ∙ ap (λ rs. spot rs (c.args.field, c.args.position)) c.deref.ensures.value in
    let h = number_at slots ts ns c.args.field c.args.position t.0 c.place.result a p in
    let w = slice_get_within ns c.place.result _ h in
    omega arith

pub returns : goal.returns
returns c =
    let slots = c.self.inside.slots.items in
    let ts : List (List ℕ) = map (λ t. t.items) c.self.inside.texts.items in
    let ns = c.self.inside.numbers.items in
    let t = number_there _ c.requires in
    let a = of_store slots ts ns c.args.self.now c.args.field c.args.position _ c.self.view_is c.self.invariant t.1 in
    let p : c.place.result ≡ spot slots (c.args.field, c.args.position) = c.place.ensures ∙ ap (λ rs. spot rs (c.args.field, c.args.position)) c.deref.ensures.value in
    let h = number_at slots ts ns c.args.field c.args.position t.0 c.place.result a p in
    let r : c.index.result.now ≡ t.0 = c.index.ensures ∙ get_or_from_slice_get ns c.place.result t.0 _ h in
    t.1 ∙ ap (λ n. Some (Number n)) (sym r) ∙ ap (λ n. Some (Number n)) (search rules)
