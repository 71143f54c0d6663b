use Rattle.std.proofs.Common.{◌-◌, length}
use Rattle.rpg_machine_inputs.specs.Digits.{ArePlainTo}
use Rattle.rpg_machine_inputs.proofs.digits.number_by_fours.Given as goal

abbrev pub invariant-fours : goal.invariant-fours
invariant-fours l = ArePlainTo l.text l.spot l.size

abbrev pub decreases-fours : goal.decreases-fours
decreases-fours l = length l.text - l.spot
