use Rattle.std.proofs.Common.{◌≡◌, drop}
use Rattle.rpg_faults_places.specs.Joins.{matched_on}
use Rattle.rpg_faults_places.proofs.joins.matched_on.Given as goal

abbrev pub invariant-loop-card : goal.invariant-loop-card
invariant-loop-card l = matched_on l.level (drop l.card-index l.cards) ≡ matched_on l.level l.cards
