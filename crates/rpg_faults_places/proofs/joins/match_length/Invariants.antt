use Rattle.std.proofs.Common.{◌≡◌, ◌+◌, ◌*◌, ◌≤◌, drop}
use Rattle.rpg_faults_places.specs.JoinSums.{match_length}
use Rattle.rpg_faults_places.proofs.joins.match_length.Given as goal

abbrev pub invariant-loop-card : goal.invariant-loop-card
invariant-loop-card l = record {
  so_far : l.sum + match_length l.level (drop l.card-index l.cards) ≡ match_length l.level l.cards;
  room : l.sum ≤ 65535 * l.card-index;
}
