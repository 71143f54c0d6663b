use Rattle.std.proofs.Common.{◌-◌, length}
use Rattle.rpg_machine_inputs.specs.Digits.{ArePlainTo}
use Rattle.rpg_machine_inputs.proofs.digits.number_in_front.Given as goal

abbrev pub invariant-digits : goal.invariant-digits
invariant-digits l = ArePlainTo l.text l.spot l.size

abbrev pub decreases-digits : goal.decreases-digits
decreases-digits l = length l.text - l.spot
