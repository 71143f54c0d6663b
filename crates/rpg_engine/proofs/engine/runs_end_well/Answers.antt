use Rattle.std.proofs.Common.{refl}
use Rattle.rpg_cycle.specs.Job.{first_fields}
use Rattle.rpg_cycle.specs.Starting.{job_first_world}
use Rattle.rpg_engine.proofs.engine.runs_end_well.Goals as goal

pub returns-clause-exists : goal.returns-clause-exists
returns-clause-exists c = λ p date day rs kept accepted dated.
    c.runs_keep.ensures.exists p date day (first_fields p) rs kept accepted dated (c.first_values_hold.ensures p (job_first_world (first_fields p)).data kept refl)

pub returns-clause-each : goal.returns-clause-each
returns-clause-each c = λ p date day rs course bytes kept accepted dated run.
    c.runs_keep.ensures.each p date day (first_fields p) rs course bytes kept accepted dated (c.first_values_hold.ensures p (job_first_world (first_fields p)).data kept refl) run
