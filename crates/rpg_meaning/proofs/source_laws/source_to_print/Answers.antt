use Rattle.std.proofs.Common.{refl}
use Rattle.rpg_cycle.specs.Job.{first_fields}
use Rattle.rpg_cycle.specs.Starting.{job_first_world}
use Rattle.rpg_faults.specs.Source.{cards_in}
use Rattle.rpg_meaning.proofs.Jobs.CompiledMeant.{does_as_meant}
use Rattle.rpg_meaning.proofs.Sources.Composed.{only_run, prints, sends_parts}
use Rattle.rpg_meaning.proofs.source_laws.source_to_print.Goals as goal

pub returns-clause-meaning : goal.returns-clause-meaning
returns-clause-meaning c = λ text allowance p program compiled digits day dated records.
    let first = c.first_values_hold.ensures p (job_first_world (first_fields p)).data program refl in
    let h = c.runs_keep.ensures.exists p digits day (first_fields p) records program compiled.accepted dated first in
    only_run (cards_in text) allowance p digits day (does_as_meant text allowance p program compiled) dated
    (λ records course bytes run. c.runs_keep.ensures.each p digits day (first_fields p) records course bytes program compiled.accepted dated first run) records h.course h.bytes h.run

pub returns-clause-prints : goal.returns-clause-prints
returns-clause-prints c = λ text allowance p program compiled digits day dated.
    let first = c.first_values_hold.ensures p (job_first_world (first_fields p)).data program refl in
    prints (cards_in text) allowance p digits day (does_as_meant text allowance p program compiled) dated
    (λ records course bytes run. c.runs_keep.ensures.each p digits day (first_fields p) records course bytes program compiled.accepted dated first run)

pub returns-clause-parts : goal.returns-clause-parts
returns-clause-parts c = λ text allowance p program compiled digits day dated.
    let first = c.first_values_hold.ensures p (job_first_world (first_fields p)).data program refl in
    sends_parts (cards_in text) allowance p digits day (does_as_meant text allowance p program compiled) dated
    (λ records course bytes run. c.runs_keep.ensures.each p digits day (first_fields p) records course bytes program compiled.accepted dated first run)
    (λ records. c.runs_keep.ensures.exists p digits day (first_fields p) records program compiled.accepted dated first)
