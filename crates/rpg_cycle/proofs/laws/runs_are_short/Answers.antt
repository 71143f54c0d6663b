use Rattle.std.proofs.Common.{[], arith}
use Rattle.rpg_cycle.proofs.Cycling.{at_first}
use Rattle.rpg_cycle.proofs.Ending.{few_cycles}
use Rattle.rpg_cycle_records.specs.Waiting.{unread}
use Rattle.rpg_cycle.proofs.laws.runs_are_short.Goals as goal

pub returns : goal.returns
returns c = λ p rs x course h. let few = few_cycles course.cycles p [] rs x unread course (at_first p) h in omega (arith, few)
