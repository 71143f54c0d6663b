use Rattle.rpg_symbols.proofs.Calls.{not_cyclic}
use Rattle.rpg_symbols.proofs.levels.subroutine_levels.Goals as goal

pub returns-in-Some-clause-acyclic : goal.returns-in-Some-clause-acyclic
returns-in-Some-clause-acyclic c = not_cyclic c.args.count c.args.calls.now c.raise_all.new.levels c.in-Some.ensures.levels c.requires.among
