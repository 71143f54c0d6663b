use Rattle.rpg_cycle_safety.proofs.Accepting.{accepted_orderly}
use Rattle.rpg_cycle_safety.proofs.Costing.{section_paid}
use Rattle.rpg_cycle_safety.proofs.Dating.{date_small}
use Rattle.rpg_cycle_safety.proofs.Measuring.{cycle_in_output, cycle_pays, run_in_output}
use Rattle.rpg_cycle_safety.proofs.Pending.{job_in_output}
use Rattle.rpg_cycle_safety.proofs.Totalling.{whole_few}
use Rattle.rpg_cycle_safety.proofs.run_laws.outputs_stay_in_bound.Goals as goal

pub returns-clause-section : goal.returns-clause-section
returns-clause-section g = λ p section previous c e d out kept accepted ended none h near runs.
    section_paid p (accepted_orderly p kept accepted) section previous c e d out ended none h near runs

pub returns-clause-cycle : goal.returns-clause-cycle
returns-clause-cycle g = λ p earlier primary secondary previous c i e d out kept accepted h none waiting near cycle.
    let orderly = accepted_orderly p kept accepted in (
      cycle_pays p orderly earlier primary secondary previous c i e d out h none waiting near cycle,
      cycle_in_output p orderly earlier primary secondary previous c i e d out h none waiting near cycle,
    )

pub returns-clause-run : goal.returns-clause-run
returns-clause-run g = λ p text date fields records last out kept accepted is h put.
    run_in_output p (accepted_orderly p kept accepted) date fields records last out (date_small text date is) h put

pub returns-clause-job : goal.returns-clause-job
returns-clause-job g = λ old new earlier previous primary secondary e kept accepted h none waiting near empty cycle.
    job_in_output old new earlier previous primary secondary e (accepted_orderly old.program kept accepted) h none waiting near empty cycle

pub returns-clause-whole : goal.returns-clause-whole
returns-clause-whole g = λ p text date fields records course bytes kept accepted is h run.
    whole_few p (accepted_orderly p kept accepted) date fields records course bytes (date_small text date is) h run
