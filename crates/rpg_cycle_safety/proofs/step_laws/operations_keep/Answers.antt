use Rattle.rpg_cycle_safety.proofs.Acting.{operate_keeps}
use Rattle.rpg_cycle_safety.proofs.step_laws.operations_keep.Goals as goal

pub returns : goal.returns
returns c = operate_keeps
