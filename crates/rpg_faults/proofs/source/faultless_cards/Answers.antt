use Rattle.std.proofs.Common.{◌∙◌, refl, ap, subst}
use Rattle.rpg_faults.specs.Faults.{IsLeastFault}
use Rattle.rpg_faults.specs.Cards.{numbered_cards}
use Rattle.rpg_faults.proofs.source.faultless_cards.Goals as goal

pub returns-in-Err-clause-err : goal.returns-in-Err-clause-err
returns-in-Err-clause-err c =
    let cards = c.deref.ensures.value ∙ c.in_ok-cards-2.ensures ∙ ap (numbered_cards 1) c.in_ok-cards.ensures.cards in
    (c.in_ok-cards.ensures.faultless, subst (λ cs. IsLeastFault cs c.in-Err.fault) cards (rw c.in-Err.is at c.in_ok-fault.ensures), refl)
