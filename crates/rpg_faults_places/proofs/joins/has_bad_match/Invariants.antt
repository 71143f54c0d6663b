use Rattle.std.proofs.Common.{◌≡◌, length}
use Rattle.rpg_faults_places.specs.JoinSums.{any_bad}
use Rattle.rpg_faults_places.specs.Joins.{matched}
use Rattle.rpg_faults_places.proofs.joins.has_bad_match.Given as goal

abbrev pub invariant-loop-card : goal.invariant-loop-card
invariant-loop-card l = any_bad (matched l.rest) ≡ any_bad (matched l.cards)

abbrev pub decreases-loop-card : goal.decreases-loop-card
decreases-loop-card l = length l.rest
