use Rattle.rpg_cycle_safety.proofs.Starting.{first_holds}
use Rattle.rpg_cycle_safety.proofs.step_laws.first_values_hold.Goals as goal

pub returns : goal.returns
returns c = first_holds
