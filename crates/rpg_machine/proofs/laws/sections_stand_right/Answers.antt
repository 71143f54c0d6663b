use Rattle.rpg_machine.proofs.Standing.{sections_stand_right}
use Rattle.rpg_machine.proofs.laws.sections_stand_right.Goals as goal

pub returns : goal.returns
returns c = sections_stand_right
