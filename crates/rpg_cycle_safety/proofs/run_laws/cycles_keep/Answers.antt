use Rattle.rpg_cycle_safety.proofs.Accepting.{accepted_orderly}
use Rattle.rpg_cycle_safety.proofs.Cycling.{cycles_well, has_cycle}
use Rattle.rpg_cycle_safety.proofs.Selecting.{unread_waits}
use Rattle.rpg_cycle_safety.proofs.run_laws.cycles_keep.Goals as goal

pub returns-clause-first : goal.returns-clause-first
returns-clause-first g = λ p. unread_waits p

pub returns-clause-exists : goal.returns-clause-exists
returns-clause-exists g = λ p earlier primary secondary c i kept accepted h none waiting.
    has_cycle p (accepted_orderly p kept accepted) earlier primary secondary c i h none waiting

pub returns-clause-each : goal.returns-clause-each
returns-clause-each g = λ p earlier primary secondary c i e d out kept accepted h none waiting cycle.
    cycles_well p (accepted_orderly p kept accepted) earlier primary secondary c i e d out h none waiting cycle
