use Rattle.std.proofs.Common.{◌≡◌, ◌∙◌, [], arith, ap, length, subst, take}
use Rattle.std.proofs.Math.Seq.{take-length}
use Rattle.std.proofs.lemmas.List.{take_all}
use Rattle.rpg_card_index.specs.Index.{StandAt}
use Rattle.rpg_cards.proofs.ItemLemmas.{constants_in-append, constants_in-take}
use Rattle.rpg_cards.specs.Constants.{constants_in, constants_on, is_same}
use Rattle.rpg_cards.specs.Insertions.{insert_all}
use Rattle.rpg_card_index.proofs.PlaceLemmas.{card_stands, next_place}
use Rattle.rpg_compile_program.specs.Constants.{AddsConstants}
use Rattle.rpg_compile_program.proofs.names.FieldRows.add_constants.Goals as goal

pub add_constants_on-requires : goal.add_constants_on-requires
add_constants_on-requires c =
    let cards = c.as_slice-card-items.result.now in
    let place = c.loop-card.place in
    let card = c.card-item.result in
    subst (λ cs. StandAt place (constants_on card.spec) (constants_in cs)) c.as_slice-card-items.ensures
    (card_stands (λ c. constants_on c.spec) constants_in constants_in-append constants_in-take cards c.loop-card.card-index place card c.loop-card-test.true c.card-item.is c.loop-card.invariant.place)

pub loop-card-preserved : goal.loop-card-preserved
loop-card-preserved c =
    let cards = c.as_slice-card-items.result.now in
    record {
      place = c.in_ok-place.ensures.place ∙ next_place (λ c. constants_on c.spec) constants_in constants_in-append constants_in-take cards c.loop-card.card-index c.loop-card.place c.card-item.result c.loop-card-test.true c.card-item.is c.loop-card.invariant.place;
      added = c.in_ok-place.ensures.added c.args.self.now c.loop-card.invariant.added;
    }

pub returns : goal.returns
returns c =
    let cards = c.as_slice-card-items.result.now in
    let all = constants_in c.args.source.now in
    let whole : take c.loop-card.card-index cards ≡ c.args.source.now = take_all c.loop-card.card-index cards (omega arith) ∙ c.as_slice-card-items.ensures in
    let at : c.loop-card.place ≡ length all = c.loop-card.invariant.place ∙ ap (λ cs. length (constants_in cs)) whole in
    subst (λ xs. AddsConstants (insert_all is_same [] xs) c.args.self.now c.loop-card.self) (ap (λ n. take n all) at ∙ take-length all) c.loop-card.invariant.added
