use Rattle.std.proofs.Common.{length}
use Rattle.rpg_cards.proofs.groups.+group_end.Given as goal

abbrev pub decreases-group_end : goal.decreases-group_end
decreases-group_end l = length l.after.now
