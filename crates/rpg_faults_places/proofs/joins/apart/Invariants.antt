use Rattle.std.proofs.Common.{◌≡◌, ◌+◌, drop}
use Rattle.rpg_faults_places.specs.Joins.{first_difference}
use Rattle.rpg_faults_places.proofs.joins.apart.Given as goal

abbrev pub invariant-loop-i : goal.invariant-loop-i
invariant-loop-i l = first_difference l.first.card (l.i + 1) (drop l.i l.first.lengths) (drop l.i l.own) ≡ first_difference l.first.card 1 l.first.lengths l.own
