use Rattle.std.proofs.Common.{◌≡◌, ℕ, List, Some, length, map, refl, sym, ap, ◌∙◌, subst, arith}
use Rattle.std.proofs.lemmas.List.{length-map}
use Rattle.std.proofs.lemmas.Option.{slice_get_within}
use Rattle.std.specs.FinMap as maps
use Rattle.rpg_program.specs.Values.{Text}
use Rattle.rpg_store.specs.Contents.{IsEntry}
use Rattle.rpg_store.specs.Listed.{Listed, listed_contents, listed_with_text}
use Rattle.rpg_store.specs.Slots.{forms_of, spot}
use Rattle.rpg_store.specs.declared.slot.Slot.{Slot}
use Rattle.rpg_store.proofs.Listing.{lent_there, listed, of_store, text_at, text_read, text_there, wrote_there}
use Rattle.rpg_store.proofs.listed.ListedStoreStore.text_mut.Goals as goal

pub place-at-requires : goal.place-at-requires
place-at-requires c =
    let slots = c.self.inside.slots.items in
    let ts : List (List ℕ) = map (λ t. t.items) c.self.inside.texts.items in
    let ns = c.self.inside.numbers.items in
    let t = text_there _ c.requires in
    let a = of_store slots ts ns c.args.self.now c.args.field c.args.position _ c.self.view_is c.self.invariant t.1 in
    subst (λ (rs : List Slot). IsEntry (forms_of rs) (c.args.field, c.args.position)) (sym c.deref.ensures.value) a.entry

pub index_mut-requires : goal.index_mut-requires
index_mut-requires c =
    let slots = c.self.inside.slots.items in
    let ts : List (List ℕ) = map (λ t. t.items) c.self.inside.texts.items in
    let ns = c.self.inside.numbers.items in
    let t = text_there _ c.requires in
    let a = of_store slots ts ns c.args.self.now c.args.field c.args.position _ c.self.view_is c.self.invariant t.1 in
    let p : c.place-at.result ≡ spot slots (c.args.field, c.args.position) = c.place-at.ensures ∙ ap (λ rs. spot rs (c.args.field, c.args.position)) c.deref.ensures.value in
    let h = text_at slots ts ns c.args.field c.args.position t.0 c.place-at.result a p in
    let w = slice_get_within ts c.place-at.result _ h in
    let l = length-map c.self.inside.texts.items (λ t. t.items) in
    omega arith

pub returns : goal.returns
returns c =
    let slots = c.self.inside.slots.items in
    let vs = c.self.inside.texts.items in
    let ts : List (List ℕ) = map (λ t. t.items) vs in
    let ns = c.self.inside.numbers.items in
    let field = c.args.field in
    let position = c.args.position in
    let t = text_there _ c.requires in
    let a = of_store slots ts ns c.args.self.now field position _ c.self.view_is c.self.invariant t.1 in
    let p : c.place-at.result ≡ spot slots (field, position) = c.place-at.ensures ∙ ap (λ rs. spot rs (field, position)) c.deref.ensures.value in
    let h = text_at slots ts ns field position t.0 c.place-at.result a p in
    let r = text_read vs c.place-at.result t.0 c.index_mut.result.now h c.index_mut.ensures.value in
    let same : t.0 ≡ c.as_mut_slice.result.now = sym r ∙ sym c.as_mut_slice.ensures.value in (
      (refl, λ w. lent_there slots vs ns field position t.0 c.place-at.result c.index_mut.result.now w a p r ∙ ap (λ (s : Listed). listed_with_text s field position w) c.self.view_is),
      record {
        writes_back = tt;
        value = t.1 ∙ ap (λ u. Some (Text u)) same;
        contents = λ w h'.
            let long : length w ≡ length t.0 = h' ∙ ap length (sym same) in
            ap (λ (s : Listed). listed_contents (listed_with_text s field position w)) (sym c.self.view_is)
            ∙ wrote_there (listed slots ts ns) field position t.0 w c.self.invariant a long
            ∙ ap (λ (s : Listed). maps.insert (listed_contents s) (field, position) (Text w)) c.self.view_is;
        currents = λ w. refl;
        forms = λ w. refl;
      },
    )
