use Rattle.rpg_cycle_safety.proofs.Buying.{most_greatest}
use Rattle.rpg_cycle_safety.proofs.step_laws.most_is_greatest.Goals as goal

pub returns : goal.returns
returns c = most_greatest
