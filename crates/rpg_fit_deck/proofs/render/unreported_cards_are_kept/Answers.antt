use Rattle.rpg_fit_deck.proofs.Parts.{keeps}
use Rattle.rpg_fit_deck.proofs.render.unreported_cards_are_kept.Goals as goal

pub returns : goal.returns
returns c = keeps
