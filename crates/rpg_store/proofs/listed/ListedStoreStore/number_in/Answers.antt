use Rattle.std.proofs.Common.{◌≡◌, ℕ, List, Some, map, sym, ap, ◌∙◌, arith, rules}
use Rattle.std.proofs.lemmas.Option.{get_or_from_slice_get, slice_get_within}
use Rattle.rpg_program.specs.Values.{Number}
use Rattle.rpg_store.specs.Slots.{spot}
use Rattle.rpg_store.proofs.Listing.{known_place, of_store, number_at, number_there}
use Rattle.rpg_store.proofs.listed.ListedStoreStore.number_in.Goals as goal

pub index-requires : goal.index-requires
index-requires c =
    let slots = c.self.inside.slots.items in
    let ts : List (List ℕ) = map (λ t. t.items) c.self.inside.texts.items in
    let ns = c.self.inside.numbers.items in
    let t = number_there _ c.requires.there in
    let a = of_store slots ts ns c.args.self.now c.args._field c.args._position _ c.self.view_is c.self.invariant t.1 in
    let p : c.args.place ≡ spot slots (c.args._field, c.args._position) = known_place slots ts ns c.args.self.now c.args.place c.args._field c.args._position c.self.view_is c.self.invariant c.requires.place in
    let h = number_at slots ts ns c.args._field c.args._position t.0 c.args.place a p in
    let w = slice_get_within ns c.args.place _ h in
    omega arith

pub returns : goal.returns
returns c =
    let slots = c.self.inside.slots.items in
    let ts : List (List ℕ) = map (λ t. t.items) c.self.inside.texts.items in
    let ns = c.self.inside.numbers.items in
    let t = number_there _ c.requires.there in
    let a = of_store slots ts ns c.args.self.now c.args._field c.args._position _ c.self.view_is c.self.invariant t.1 in
    let p : c.args.place ≡ spot slots (c.args._field, c.args._position) = known_place slots ts ns c.args.self.now c.args.place c.args._field c.args._position c.self.view_is c.self.invariant c.requires.place in
    let h = number_at slots ts ns c.args._field c.args._position t.0 c.args.place a p in
    let r : c.index.result.now ≡ t.0 = c.index.ensures ∙ get_or_from_slice_get ns c.args.place t.0 _ h in
    t.1 ∙ ap (λ n. Some (Number n)) (sym r) ∙ ap (λ n. Some (Number n)) (search rules)
