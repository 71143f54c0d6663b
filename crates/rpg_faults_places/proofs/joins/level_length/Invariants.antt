use Rattle.std.proofs.Common.{◌≡◌, ◌*◌, ◌≤◌, drop}
use Rattle.rpg_cards.specs.Groups.{followers, input_role}
use Rattle.rpg_faults_places.specs.Lengths.{length_after}
use Rattle.rpg_faults_places.specs.Places.{level_fields, level_length}
use Rattle.rpg_faults_places.proofs.joins.level_length.Given as goal

abbrev pub invariant-loop-card : goal.invariant-loop-card
invariant-loop-card l = record {
  same : level_length l.level (followers input_role l.cards) ≡ length_after l.sum (level_fields l.level (followers input_role (drop l.card-index l.cards)));
  room : l.sum ≤ 65535 * l.card-index;
}
