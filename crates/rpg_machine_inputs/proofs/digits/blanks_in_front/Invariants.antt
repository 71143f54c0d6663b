use Rattle.std.proofs.Common.{◌-◌, length}
use Rattle.rpg_machine_inputs.specs.Digits.{ArePlainTo}
use Rattle.rpg_machine_inputs.proofs.digits.blanks_in_front.Given as goal

abbrev pub invariant-blanks : goal.invariant-blanks
invariant-blanks l = ArePlainTo l.text l.spot 0

abbrev pub decreases-blanks : goal.decreases-blanks
decreases-blanks l = length l.text - l.spot
