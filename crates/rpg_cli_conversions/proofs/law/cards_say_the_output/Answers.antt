use Rattle.rpg_cli_conversions.proofs.SeenLemmas.{by_cards}
use Rattle.rpg_cli_conversions.proofs.law.cards_say_the_output.Goals as goal

pub returns : goal.returns
returns c = by_cards
