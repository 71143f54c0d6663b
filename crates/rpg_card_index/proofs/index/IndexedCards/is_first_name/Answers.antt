use Rattle.std.proofs.Common.{subst, ◌∙◌}
use Rattle.rpg_card_index.proofs.PlaceLemmas.{new_at}
use Rattle.rpg_card_index.proofs.TotalLemmas.{counts_more, same_name_equiv}
use Rattle.rpg_card_index.specs.Index.{IsNewAt}
use Rattle.rpg_card_index.specs.Totals.{name_totals}
use Rattle.rpg_cards.specs.Names.{definitions, given_names, is_new_name, same_name}
use Rattle.rpg_card_index.proofs.index.IndexedCards.is_first_name.Goals as goal

pub returns : goal.returns
returns c =
    let place = c.args.place in
    let ds = definitions c.self.inside.cards.now in
    subst (λ cards. IsNewAt (definitions cards) place (λ d before. is_new_name d.name before) c.counts.result) c.self.view_is
    (λ d at. c.counts.ensures ∙ counts_more name_totals ds c.self.inside.index.names.totals c.self.invariant.names.running place ∙ new_at same_name same_name_equiv given_names ds place d at)
