use Rattle.rpg_machine.proofs.OneRun.{runs_are_one}
use Rattle.rpg_machine.proofs.laws.runs_are_one.Goals as goal

pub returns : goal.returns
returns c = runs_are_one
