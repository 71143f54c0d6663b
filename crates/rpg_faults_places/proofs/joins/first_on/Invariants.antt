use Rattle.std.proofs.Common.{◌≡◌, ◌≤◌, length}
use Rattle.rpg_faults_places.specs.Joins.{first_on}
use Rattle.rpg_faults_places.proofs.joins.first_on.Given as goal

abbrev pub invariant-loop-card : goal.invariant-loop-card
invariant-loop-card l = record {
  same : first_on l.level l.rest ≡ first_on l.level l.cards;
  few : length l.rest ≤ length l.cards;
}

abbrev pub decreases-loop-card : goal.decreases-loop-card
decreases-loop-card l = length l.rest
