use Rattle.std.proofs.Common.{◌≡◌, ◌+◌, ◌*◌, ◌≤◌, drop}
use Rattle.std.specs.List.{sum_by}
use Rattle.rpg_faults_places.specs.Joins.{matched}
use Rattle.rpg_faults_places.specs.Places.{input_columns}
use Rattle.rpg_faults_places.proofs.joins.matched_columns.Given as goal

abbrev pub invariant-loop-card : goal.invariant-loop-card
invariant-loop-card l = record {
  so_far : l.sum + sum_by input_columns (matched (drop l.card-index l.cards)) ≡ sum_by input_columns (matched l.cards);
  room : l.sum ≤ 65535 * l.card-index;
}
