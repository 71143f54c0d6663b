use Rattle.std.proofs.Common.{◌≡◌, drop}
use Rattle.std.specs.List.{list_any}
use Rattle.rpg_cards.specs.Groups.{followers, input_role}
use Rattle.rpg_faults_places.specs.Joined.{has_joined_field}
use Rattle.rpg_faults_places.proofs.columns.has_level.Given as goal

abbrev pub invariant-loop-card : goal.invariant-loop-card
invariant-loop-card l = list_any has_joined_field (followers input_role l.after) ≡ list_any has_joined_field (followers input_role (drop l.card-index l.after))
