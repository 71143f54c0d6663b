use Rattle.std.proofs.Common.{◌≡◌, drop}
use Rattle.rpg_faults_places.specs.JoinSums.{are_some}
use Rattle.rpg_faults_places.specs.Joins.{matched}
use Rattle.rpg_faults_places.proofs.joins.has_matches.Given as goal

abbrev pub invariant-loop-card : goal.invariant-loop-card
invariant-loop-card l = are_some (matched (drop l.card-index l.cards)) ≡ are_some (matched l.cards)
