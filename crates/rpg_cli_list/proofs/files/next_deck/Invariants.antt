use Rattle.std.proofs.Common.{length}
use Rattle.rpg_cli_list.proofs.files.next_deck.Given as goal

abbrev pub decreases-loop-card : goal.decreases-loop-card
decreases-loop-card l = length l.rest.now
