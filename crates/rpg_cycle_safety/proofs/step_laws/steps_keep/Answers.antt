use Rattle.rpg_cycle_safety.proofs.Accepting.{accepted_orderly}
use Rattle.rpg_cycle_safety.proofs.Stepping.{leads_well, stays_in_bound}
use Rattle.rpg_cycle_safety.proofs.step_laws.steps_keep.Goals as goal

pub returns-clause-leads : goal.returns-clause-leads
returns-clause-leads c = λ p d kept accepted steady more. leads_well p (accepted_orderly p kept accepted) d steady more

pub returns-clause-bound : goal.returns-clause-bound
returns-clause-bound g = λ p c d o kept accepted before is. stays_in_bound p (accepted_orderly p kept accepted) c d o before is
