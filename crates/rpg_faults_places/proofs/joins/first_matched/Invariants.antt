use Rattle.std.proofs.Common.{◌≡◌, ◌≤◌, length}
use Rattle.rpg_faults_places.specs.Joins.{first_matched}
use Rattle.rpg_faults_places.proofs.joins.first_matched.Given as goal

abbrev pub invariant-loop-card : goal.invariant-loop-card
invariant-loop-card l = record {
  same : first_matched l.rest ≡ first_matched l.cards;
  few : length l.rest ≤ length l.cards;
}

abbrev pub decreases-loop-card : goal.decreases-loop-card
decreases-loop-card l = length l.rest
