use Rattle.std.proofs.Common.{◌≡◌, ◌+◌, ◌≤◌, drop, length}
use Rattle.rpg_cards.specs.Groups.{data_role, followers}
use Rattle.rpg_faults_data.proofs.data.data_cards.Given as goal

abbrev pub invariant-loop-card : goal.invariant-loop-card
invariant-loop-card l = (length (followers data_role l.deck) ≡ l.count + length (followers data_role (drop l.card-index l.deck))) × (l.count ≤ l.card-index)
