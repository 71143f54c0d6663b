use Rattle.std.proofs.Common.{arith, take, subst, sym}
use Rattle.std.proofs.lemmas.List.{length-take-le}
use Rattle.rpg_card_index.specs.Index.{IsConstantIndex, IsNameIndex}
use Rattle.rpg_cards.proofs.ItemLemmas.{constants_in-take, definitions-take, few_constants, few_definitions}
use Rattle.rpg_cards.specs.Constants.{constants_in}
use Rattle.rpg_cards.specs.Names.{definitions}
use Rattle.rpg_card_index.proofs.index.CardIndex.new.Goals as goal

pub note_card-requires : goal.note_card-requires
note_card-requires c =
    let front = take c.loop-card.card-index c.args.cards.now in
    let few = few_definitions front in
    let all = length-take-le c.loop-card.card-index c.args.cards.now (omega arith) in
    (definitions front, (c.loop-card.invariant.names, omega arith))

pub note_card-requires-in-loop-card : goal.note_card-requires-in-loop-card
note_card-requires-in-loop-card c =
    let front = take c.loop-card.card-index c.args.cards.now in
    let few = few_constants front in
    let all = length-take-le c.loop-card.card-index c.args.cards.now (omega arith) in
    (constants_in front, (c.loop-card.invariant.constants, omega arith))

pub loop-card-preserved : goal.loop-card-preserved
loop-card-preserved c =
    let cards = c.args.cards.now in
    let i = c.loop-card.card-index in
    let card = c.card-item.result in
    record {
      names = subst (λ ds. IsNameIndex ds c.note_card.new.self) (sym (definitions-take cards i card c.loop-card-test.true c.card-item.is)) (c.in_ok-note_card.ensures (definitions (take i cards)) c.loop-card.invariant.names);
      constants = subst (λ xs. IsConstantIndex xs c.note_card-in-loop-card.new.self) (sym (constants_in-take cards i card c.loop-card-test.true c.card-item.is)) (c.in_ok-note_card-2.ensures (constants_in (take i cards)) c.loop-card.invariant.constants);
    }
