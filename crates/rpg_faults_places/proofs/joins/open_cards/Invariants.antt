use Rattle.std.proofs.Common.{◌≡◌, ◌≤◌, [], length}
use Rattle.rpg_faults_places.specs.Joins.{after_last}
use Rattle.rpg_faults_places.proofs.joins.open_cards.Given as goal

abbrev pub invariant-loop-card : goal.invariant-loop-card
invariant-loop-card l = record {
  cards : after_last l.own l.rest ≡ after_last [] l.before;
  few : length l.own ≤ length l.before;
  few_left : length l.rest ≤ length l.before;
}

abbrev pub decreases-loop-card : goal.decreases-loop-card
decreases-loop-card l = length l.rest
