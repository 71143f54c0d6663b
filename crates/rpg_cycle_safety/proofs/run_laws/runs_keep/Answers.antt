use Rattle.rpg_cycle_safety.proofs.Accepting.{accepted_orderly}
use Rattle.rpg_cycle_safety.proofs.Coursing.{has_run, runs_well}
use Rattle.rpg_cycle_safety.proofs.Dating.{date_small}
use Rattle.rpg_cycle_safety.proofs.Visiting.{visited_steady}
use Rattle.rpg_cycle_safety.proofs.run_laws.runs_keep.Goals as goal

pub returns-clause-exists : goal.returns-clause-exists
returns-clause-exists g = λ p text date fields records kept accepted is h. has_run p (accepted_orderly p kept accepted) date fields records (date_small text date is) h

pub returns-clause-each : goal.returns-clause-each
returns-clause-each g = λ p text date fields records course bytes kept accepted is h run.
    runs_well p (accepted_orderly p kept accepted) date fields records course bytes (date_small text date is) h run

pub returns-clause-throughout : goal.returns-clause-throughout
returns-clause-throughout g = λ p text date fields records c kept accepted is h visited.
    visited_steady p (accepted_orderly p kept accepted) date fields records c (date_small text date is) h visited
