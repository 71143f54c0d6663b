use Rattle.rpg_machine.proofs.NeverWrong.{no_step_wrong}
use Rattle.rpg_machine.proofs.laws.no_step_is_wrong.Goals as goal

pub returns : goal.returns
returns c = no_step_wrong c.args.program.now c.accepted_is_orderly.ensures
