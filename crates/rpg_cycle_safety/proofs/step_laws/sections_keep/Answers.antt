use Rattle.rpg_cycle_safety.proofs.Accepting.{accepted_orderly}
use Rattle.rpg_cycle_safety.proofs.Running.{ends_well, has_run, stands_well}
use Rattle.rpg_cycle_safety.proofs.step_laws.sections_keep.Goals as goal

pub returns-clause-exists : goal.returns-clause-exists
returns-clause-exists g = λ p section c kept accepted ended none h. has_run p (accepted_orderly p kept accepted) section c ended none h

pub returns-clause-each : goal.returns-clause-each
returns-clause-each g = λ p section c e d o kept accepted ended none h run. ends_well p (accepted_orderly p kept accepted) section c e d o ended none h run

pub returns-clause-throughout : goal.returns-clause-throughout
returns-clause-throughout g = λ p section n c kept accepted ended none h. stands_well p (accepted_orderly p kept accepted) section n c ended none h
