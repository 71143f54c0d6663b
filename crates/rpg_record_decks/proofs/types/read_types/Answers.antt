use Rattle.std.proofs.Common.{◌≡◌, ◌<◌, ◌+◌, List, ap, arith, codes, drop, length, subst, sym, true, ◌∙◌, Result}
use Rattle.std.proofs.lemmas.Grind.{common_steps}
use Rattle.std.proofs.lemmas.Result.{err_from_is_err_and}
use Rattle.rpg_record_decks.proofs.TypeLemmas.{card_next}
use Rattle.rpg_record_decks.specs.Outcomes.{IsDeckFaultOf}
use Rattle.rpg_record_decks.specs.Reading.{all_types}
use Rattle.rpg_record_decks.specs.Types.{TypeRead, cards_of_file, is_of_file, is_on_sheet}
use Rattle.rpg_record_decks.specs.declared.deck.DeckCard.{DeckCard}
use Rattle.rpg_record_decks.specs.declared.fault.DeckFault.{DeckFault}
use Rattle.rpg_record_decks.proofs.types.read_types.Goals as goal

pub returns-in_err-types-clause-fault : goal.returns-in_err-types-clause-fault
returns-in_err-types-clause-fault c =
    let p = err_from_is_err_and c.from_residual.result c.from_residual.ensures.1 in
    let i = c.loop-card.card-index in
    let cards = c.args.cards.now in
    let card = c.card-item.result in
    let within : c.loop-card.card-index < length c.args.cards.now = omega arith in
    let input : is_on_sheet (codes "I") c.card-item.result.card ≡ true = first_of (cc, grind (arith, common_steps)) in
    let own : is_of_file c.args.name.now c.loop-card.is_meant c.card-item.result.card ≡ true = first_of (cc, grind (arith, common_steps)) in
    let next = card_next (codes "I") c.args.name.now c.loop-card.is_meant cards i card within c.card-item.is input own in
    let all = ap (λ (cs : List DeckCard). all_types c.args.length c.loop-card.types cs) (sym next) ∙ c.loop-card.invariant in
    rw (p.1, p.2)
    (subst (λ (r : Result (List TypeRead) DeckFault). IsDeckFaultOf r c.in_err-types.field-0.0) all (c.in_err-types.ensures.fault (cards_of_file (codes "I") c.args.name.now true (drop (i + 1) cards))))
