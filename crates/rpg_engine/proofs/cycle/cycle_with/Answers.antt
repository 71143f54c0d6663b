use Rattle.std.proofs.Common.{rules}
use Rattle.rpg_engine.proofs.cycle.cycle_with.Goals as goal

pub returns-in-Continues-clause-cycle : goal.returns-in-Continues-clause-cycle
returns-in-Continues-clause-cycle g c = record { cycles = c.in_ok-cycle_with_seen.ensures.going c.requires.going; stage = search rules; bounded = search rules }

pub returns-in-EndOfJob-clause-cycle : goal.returns-in-EndOfJob-clause-cycle
returns-in-EndOfJob-clause-cycle g c = record { cycles = c.in_ok-cycle_with_seen.ensures.going c.requires.going; stage = search rules; bounded = search rules }

pub returns-in-Halt-clause-cycle : goal.returns-in-Halt-clause-cycle
returns-in-Halt-clause-cycle g c = record { cycles = c.in_ok-cycle_with_seen.ensures.going c.requires.going; stage = search rules; bounded = search rules }
