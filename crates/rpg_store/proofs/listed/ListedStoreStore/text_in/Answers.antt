use Rattle.std.proofs.Common.{◌≡◌, ℕ, List, Some, map, sym, ap, ◌∙◌, arith}
use Rattle.std.proofs.lemmas.List.{length-map}
use Rattle.std.proofs.lemmas.Option.{slice_get_within}
use Rattle.rpg_program.specs.Values.{Text}
use Rattle.rpg_store.specs.Slots.{spot}
use Rattle.rpg_store.proofs.Listing.{known_place, of_store, text_at, text_read, text_there}
use Rattle.rpg_store.proofs.listed.ListedStoreStore.text_in.Goals as goal

pub index-requires : goal.index-requires
index-requires c =
    let slots = c.self.inside.slots.items in
    let ts : List (List ℕ) = map (λ t. t.items) c.self.inside.texts.items in
    let ns = c.self.inside.numbers.items in
    let t = text_there _ c.requires.there in
    let a = of_store slots ts ns c.args.self.now c.args._field c.args._position _ c.self.view_is c.self.invariant t.1 in
    let p : c.args.place ≡ spot slots (c.args._field, c.args._position) = known_place slots ts ns c.args.self.now c.args.place c.args._field c.args._position c.self.view_is c.self.invariant c.requires.place in
    let h = text_at slots ts ns c.args._field c.args._position t.0 c.args.place a p in
    let w = slice_get_within ts c.args.place _ h in
    let l = length-map c.self.inside.texts.items (λ t. t.items) in
    omega arith

pub returns : goal.returns
returns c =
    let slots = c.self.inside.slots.items in
    let ts : List (List ℕ) = map (λ t. t.items) c.self.inside.texts.items in
    let ns = c.self.inside.numbers.items in
    let t = text_there _ c.requires.there in
    let a = of_store slots ts ns c.args.self.now c.args._field c.args._position _ c.self.view_is c.self.invariant t.1 in
    let p : c.args.place ≡ spot slots (c.args._field, c.args._position) = known_place slots ts ns c.args.self.now c.args.place c.args._field c.args._position c.self.view_is c.self.invariant c.requires.place in
    let h = text_at slots ts ns c.args._field c.args._position t.0 c.args.place a p in
    let r = text_read c.self.inside.texts.items c.args.place t.0 c.index.result.now h c.index.ensures in
    t.1 ∙ ap (λ w. Some (Text w)) (sym r ∙ sym c.as_slice.ensures.value)
