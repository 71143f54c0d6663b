use Rattle.rpg_cycle.proofs.Cycling.{keeps, to_last, from_last}
use Rattle.rpg_cycle.proofs.laws.cycles_keep_order.Goals as goal

pub returns-clause-kept : goal.returns-clause-kept
returns-clause-kept c = keeps

pub returns-clause-to_last : goal.returns-clause-to_last
returns-clause-to_last c = to_last

pub returns-clause-from_last : goal.returns-clause-from_last
returns-clause-from_last c = from_last
