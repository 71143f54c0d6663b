use Rattle.std.proofs.Common.{◌≡◌, Err, ap, refl, rules, sym, ◌∙◌}
use Rattle.std.proofs.lemmas.Result.{err_from_is_err_and}
use Rattle.rpg_cycle.specs.Job.{AtWork}
use Rattle.rpg_files.specs.Counting.{device_of}
use Rattle.rpg_files.specs.Reading.{reader_of}
use Rattle.rpg_engine.proofs.Headline.{runs_on_day, with_run}
use Rattle.rpg_engine.proofs.Refusing.{no_room, not_started, on_err, on_ok, parts_same, reports_same, start_reported, reported_of_run}
use Rattle.rpg_engine.proofs.Whose.{same_fault, start_faults}
use Rattle.rpg_engine.specs.declared.report.Report.{Report}
use Rattle.rpg_engine.proofs.engine.run_through_files.Goals as goal

-- ---- a job that never began

pub returns-in_err-job-clause-runs : goal.returns-in_err-job-clause-runs
returns-in_err-job-clause-runs g c =
    let e = err_from_is_err_and c.from_residual.result c.from_residual.ensures.1 in
    rw (e.1, e.2) (record {
      refused = start_reported _ _ (λ is. c.in_err-job.ensures.date (ap Err is));
      untouched = λ none. (refl, refl);
      alone = λ none. refl;
      run = λ day dated. record {
        headline = tt;
        report = tt;
        early = with_run c.args.program.now day (λ rs. c.runs_end_well.ensures.exists c.args.program.now c.args.date.now day rs c.program.ensures.program c.program.ensures.accepted dated)
            _ _ _ _ _ _ _ (not_started _ _ _ _ c.args.program.now day);
      };
    })

pub returns-in_err-primary_room-clause-runs : goal.returns-in_err-primary_room-clause-runs
returns-in_err-primary_room-clause-runs g c =
    let e = err_from_is_err_and c.from_residual-in_err-primary_room.result c.from_residual-in_err-primary_room.ensures.1 in
    rw (e.1, e.2) (record {
      refused = tt;
      untouched = λ none. (refl, refl);
      alone = λ none. refl;
      run = λ day dated. record {
        headline = tt;
        report = tt;
        early = with_run c.args.program.now day (λ rs. c.runs_end_well.ensures.exists c.args.program.now c.args.date.now day rs c.program.ensures.program c.program.ensures.accepted dated)
            _ _ _ _ _ _ _ (no_room _ _ _ c.args.program.now day);
      };
    })

pub returns-in_err-secondary_room-clause-runs : goal.returns-in_err-secondary_room-clause-runs
returns-in_err-secondary_room-clause-runs g c =
    let e = err_from_is_err_and c.from_residual-in_err-secondary_room.result c.from_residual-in_err-secondary_room.ensures.1 in
    rw (e.1, e.2) (record {
      refused = tt;
      untouched = λ none. (refl, refl);
      alone = λ none. refl;
      run = λ day dated. record {
        headline = tt;
        report = tt;
        early = with_run c.args.program.now day (λ rs. c.runs_end_well.ensures.exists c.args.program.now c.args.date.now day rs c.program.ensures.program c.program.ensures.accepted dated)
            _ _ _ _ _ _ _ (no_room _ _ _ c.args.program.now day);
      };
    })

pub returns-in_err-job-clause-faults : goal.returns-in_err-job-clause-faults
returns-in_err-job-clause-faults g c =
    let e = err_from_is_err_and c.from_residual.result c.from_residual.ensures.1 in
    rw (e.1, e.2) (start_faults _ _ _ _ _ _ Report)

pub returns-in_err-primary_room-clause-faults : goal.returns-in_err-primary_room-clause-faults
returns-in_err-primary_room-clause-faults g c =
    let e = err_from_is_err_and c.from_residual-in_err-primary_room.result c.from_residual-in_err-primary_room.ensures.1 in
    rw (e.1, e.2) (λ device. refl)

pub returns-in_err-secondary_room-clause-faults : goal.returns-in_err-secondary_room-clause-faults
returns-in_err-secondary_room-clause-faults g c =
    let e = err_from_is_err_and c.from_residual-in_err-secondary_room.result c.from_residual-in_err-secondary_room.ensures.1 in
    rw (e.1, e.2) (λ device. refl)

-- ---- the readers end as the run left them

pub returns-clause-runs : goal.returns-clause-runs
returns-clause-runs g c =
    let start = c.in_ok-job.ensures.start in
    let ran = c.run-report in
    let same : reader_of ran.new.primary ≡ c.primary-1.given.0 = search rules in
    let same_too : reader_of ran.new.secondary ≡ c.secondary-1.given.0 = search rules in
    record {
      refused = reported_of_run ran.result c.args.date.now (start.number, start.spelled) ran.ensures.only;
      untouched = λ none. absurd (let dated = start.spelled in cc);
      alone = λ none. sym same_too ∙ ap (λ r. reader_of r) (ran.ensures.alone (ap (λ (j : AtWork). j.program.secondary_length) start.job ∙ none)) ∙ c.new-others.ensures.untouched;
      run = λ day dated. runs_on_day _ _ _ _ c.args.program.now day _ _ _ _ _
          (λ rs. c.runs_end_well.ensures.exists c.args.program.now c.args.date.now day rs c.program.ensures.program c.program.ensures.accepted dated)
          (λ rs course bytes run. c.runs_end_well.ensures.each c.args.program.now c.args.date.now day rs course bytes c.program.ensures.program c.program.ensures.accepted dated run)
          (on_ok ran.result _ _ (λ report holds. reports_same c.args.date.now c.args.program.now day c.in_ok-job.job _ _ _ _ _ _ _ _ _ _ report
          (ap (λ x. g.R1.Read.remaining (device_of x)) c.new-records.ensures.untouched) (ap (λ x. g.R1.Read.remaining (device_of x)) same)
          (ap (λ x. g.R2.Read.remaining (device_of x)) c.new-others.ensures.untouched) (ap (λ x. g.R2.Read.remaining (device_of x)) same_too) holds start dated) ran.ensures.report)
          (on_err ran.result _ _ (λ e holds. parts_same c.args.date.now c.args.program.now day c.in_ok-job.job _ _ _ _ _ _ _ _ _ _ e
          (ap (λ x. g.R1.Read.remaining (device_of x)) c.new-records.ensures.untouched) (ap (λ x. g.R1.Read.remaining (device_of x)) same)
          (ap (λ x. g.R2.Read.remaining (device_of x)) c.new-others.ensures.untouched) (ap (λ x. g.R2.Read.remaining (device_of x)) same_too) holds start dated) ran.ensures.early);
    }

pub returns-clause-faults : goal.returns-clause-faults
returns-clause-faults g c =
    let same : reader_of c.run-report.new.primary ≡ c.primary-1.given.0 = search rules in
    let same_too : reader_of c.run-report.new.secondary ≡ c.secondary-1.given.0 = search rules in
    same_fault g.R1.Read.remaining g.R2.Read.remaining _ c.args.primary.now _ c.primary-1.given.0 _ c.args.secondary.now _ c.secondary-1.given.0 c.args.writers.now c.run-report.new.writers c.run-report.result
    c.new-records.ensures.untouched c.new-others.ensures.untouched same same_too c.run-report.ensures.faults
