use Rattle.rpg_cycle.proofs.Standing.{runs_stand_right}
use Rattle.rpg_cycle.proofs.laws.runs_stand_right.Goals as goal

pub returns : goal.returns
returns c = runs_stand_right
