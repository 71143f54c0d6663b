use Rattle.std.proofs.Common.{◌≡◌, ℕ, List, map, sym, ap, ◌∙◌, subst, arith}
use Rattle.std.proofs.Math.Facts.{to_z-of_z}
use Rattle.std.proofs.lemmas.Option.{slice_get_within}
use Rattle.std.specs.FinMap as maps
use Rattle.rpg_program.specs.Values.{Number}
use Rattle.rpg_store.specs.Contents.{IsEntry}
use Rattle.rpg_store.specs.Listed.{Listed, listed_contents}
use Rattle.rpg_store.specs.Slots.{currents, forms_of, spot}
use Rattle.rpg_store.specs.declared.slot.Slot.{Slot}
use Rattle.rpg_store.proofs.Listing.{listed, of_store, number_at, number_there, put_number}
use Rattle.rpg_store.proofs.listed.ListedStoreStore.set_number.Goals as goal

pub place-at-requires : goal.place-at-requires
place-at-requires c =
    let slots = c.self.inside.slots.items in
    let ts : List (List ℕ) = map (λ t. t.items) c.self.inside.texts.items in
    let ns = c.self.inside.numbers.items in
    let t = number_there _ c.requires.there in
    let a = of_store slots ts ns c.args.self.now c.args.field c.args.position _ c.self.view_is c.self.invariant t.1 in
    subst (λ (rs : List Slot). IsEntry (forms_of rs) (c.args.field, c.args.position)) (sym c.deref.ensures.value) a.entry

pub index_mut-requires : goal.index_mut-requires
index_mut-requires c =
    let slots = c.self.inside.slots.items in
    let ts : List (List ℕ) = map (λ t. t.items) c.self.inside.texts.items in
    let ns = c.self.inside.numbers.items in
    let t = number_there _ c.requires.there in
    let a = of_store slots ts ns c.args.self.now c.args.field c.args.position _ c.self.view_is c.self.invariant t.1 in
    let p : c.place-at.result ≡ spot slots (c.args.field, c.args.position) = c.place-at.ensures ∙ ap (λ rs. spot rs (c.args.field, c.args.position)) c.deref.ensures.value in
    let h = number_at slots ts ns c.args.field c.args.position t.0 c.place-at.result a p in
    let w = slice_get_within ns c.place-at.result _ h in
    omega arith

pub returns-clause-contents : goal.returns-clause-contents
returns-clause-contents c =
    let slots = c.self.inside.slots.items in
    let ts : List (List ℕ) = map (λ t. t.items) c.self.inside.texts.items in
    let ns = c.self.inside.numbers.items in
    let t = number_there _ c.requires.there in
    let a = of_store slots ts ns c.args.self.now c.args.field c.args.position _ c.self.view_is c.self.invariant t.1 in
    let p : c.place-at.result ≡ spot slots (c.args.field, c.args.position) = c.place-at.ensures ∙ ap (λ rs. spot rs (c.args.field, c.args.position)) c.deref.ensures.value in
    put_number slots ts ns c.args.field c.args.position t.0 c.place-at.result _ c.self.invariant a p
    ∙ ap (λ n. maps.insert (listed_contents (listed slots ts ns)) (c.args.field, c.args.position) (Number n)) (to_z-of_z c.ranges.n)
    ∙ ap (λ (s : Listed). maps.insert (listed_contents s) (c.args.field, c.args.position) (Number c.args.n)) c.self.view_is

pub returns-clause-currents : goal.returns-clause-currents
returns-clause-currents c = ap (λ (s : Listed). currents s.slots) c.self.view_is

pub returns-clause-forms : goal.returns-clause-forms
returns-clause-forms c = ap (λ (s : Listed). forms_of s.slots) c.self.view_is
