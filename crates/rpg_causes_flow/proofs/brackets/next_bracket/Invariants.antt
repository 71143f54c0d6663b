use Rattle.std.proofs.Common.{◌≡◌, Some, length}
use Rattle.rpg_causes_flow.specs.Order.{next_bracket}
use Rattle.rpg_causes_flow.proofs.brackets.next_bracket.Given as goal

abbrev pub invariant-loop-card : goal.invariant-loop-card
invariant-loop-card l = next_bracket l.group l.rest ≡ next_bracket (Some l.level) l.fn.after

abbrev pub decreases-loop-card : goal.decreases-loop-card
decreases-loop-card l = length l.rest
