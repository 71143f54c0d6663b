use Rattle.std.proofs.Common.{◌≡◌, ◌+◌, ◌*◌, ◌≤◌, drop}
use Rattle.rpg_cards.specs.Groups.{followers, input_role}
use Rattle.rpg_faults_places.specs.Places.{joined_length}
use Rattle.rpg_faults_places.proofs.joins.joined_length.Given as goal

abbrev pub invariant-loop-card : goal.invariant-loop-card
invariant-loop-card l = record {
  so_far : l.sum + joined_length l.level (followers input_role (drop l.card-index l.cards)) ≡ joined_length l.level (followers input_role l.cards);
  room : l.sum ≤ 65535 * l.card-index;
}
