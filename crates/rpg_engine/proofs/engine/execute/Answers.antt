use Rattle.std.proofs.Common.{refl}
use Rattle.std.proofs.lemmas.Result.{err_from_is_err_and}
use Rattle.rpg_engine.proofs.Refusing.{object_refused, object_run}
use Rattle.rpg_engine.proofs.Headline.{with_run}
use Rattle.rpg_engine.proofs.engine.execute.Goals as goal

-- an object that is refused
pub returns-in_err-program-clause-runs : goal.returns-in_err-program-clause-runs
returns-in_err-program-clause-runs g c =
    let e = err_from_is_err_and c.from_residual.result c.from_residual.ensures.1 in
    rw (e.1, e.2) (record {
      refused = c.in_err-program.ensures.refused;
      untouched = λ none. (refl, refl);
      alone = λ p spells none. refl;
      run = λ p day job. record {
        headline = tt;
        report = tt;
        early = with_run p day (λ rs. c.runs_end_well.ensures.exists p c.args.date.now day rs job.spells.program job.accepted job.dated) _ _ _ _ _ _ _
            (object_refused _ _ _ _ c.args.object.now p day c.in_err-program.ensures.refused);
      };
    })

pub returns-in_err-program-clause-faults : goal.returns-in_err-program-clause-faults
returns-in_err-program-clause-faults g c =
    let e = err_from_is_err_and c.from_residual.result c.from_residual.ensures.1 in
    rw (e.1, e.2) (λ device. refl)

-- an accepted program
pub returns-clause-runs : goal.returns-clause-runs
returns-clause-runs g c =
    let read = c.in_ok-program.ensures in
    object_run _ _ _ _ c.args.object.now c.args.date.now c.in_ok-program.program _ _ _ _ _ read.spelled read.accepted read.only c.execute_program.ensures.runs
