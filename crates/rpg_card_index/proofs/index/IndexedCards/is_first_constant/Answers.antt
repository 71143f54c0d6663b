use Rattle.std.proofs.Common.{[], not, subst, ◌∙◌}
use Rattle.std.specs.List.{list_any}
use Rattle.rpg_card_index.proofs.PlaceLemmas.{new_at}
use Rattle.rpg_card_index.proofs.TotalLemmas.{counts_more}
use Rattle.rpg_card_index.specs.Index.{IsNewAt}
use Rattle.rpg_card_index.specs.Totals.{constant_totals}
use Rattle.rpg_cards.specs.Constants.{constants_in, is_same}
use Rattle.rpg_cards.specs.SameConstants.{is_same_equiv}
use Rattle.rpg_card_index.proofs.index.IndexedCards.is_first_constant.Goals as goal

pub returns : goal.returns
returns c =
    let place = c.args.place in
    let xs = constants_in c.self.inside.cards.now in
    subst (λ cards. IsNewAt (constants_in cards) place (λ x before. not (list_any (is_same x) before)) c.counts.result) c.self.view_is
    (λ x at. c.counts.ensures ∙ counts_more constant_totals xs c.self.inside.index.constants.totals c.self.invariant.constants.running place ∙ new_at is_same is_same_equiv [] xs place x at)
