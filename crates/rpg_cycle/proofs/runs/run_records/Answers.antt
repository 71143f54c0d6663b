use Rattle.std.proofs.Common.{◌+◌, ◌≤◌, ◌++◌, List, ℕ, None, [], IfOk, length, sym, ap, ◌∙◌, subst}
use Rattle.std.proofs.lemmas.List.{length-map}
use Rattle.std.specs.Global.{Vec}
use Rattle.rpg_cycle.proofs.Composing.{ok_map, ok_of_err}
use Rattle.rpg_cycle.specs.Job.{AtWork, Starts, first_fields}
use Rattle.rpg_cycle.specs.Counting.{records_count}
use Rattle.rpg_cycle.specs.RunAnswers.{RunsToEnd, RunsWhole, course_of, records_in, summary_of}
use Rattle.rpg_cycle.specs.Runs.{Records, Runs, printed, stored}
use Rattle.rpg_cycle.specs.Stages.{is_going}
use Rattle.rpg_cycle.specs.declared.runs.Run.{Run}
use Rattle.rpg_machine.specs.Running.{config_on}
use Rattle.rpg_program.specs.Object.{Object}
use Rattle.rpg_cycle_records.specs.Earlier.{left_by}
use Rattle.rpg_cycle_records.specs.Waiting.{unread}
use Rattle.rpg_verify.specs.Bound.{bound}
use Rattle.rpg_cycle.proofs.runs.run_records.Goals as goal

-- a job that began on the date ran over the records to its end
ran_whole : (p : Object) (date : List ℕ) (j : AtWork) (records : Records) (r : Run) → Starts p date (first_fields p) j → RunsToEnd j records r → RunsWhole p date records r
ran_whole p date j records r starts ran = record {
  number = starts.number;
  spelled = starts.spelled;
  out = ran.runs.out;
  there = ran.runs.there;
  run = record {
    runs = subst (λ (x : AtWork). Runs x.program [] records (config_on None x.config) unread (course_of (summary_of r) ran.runs.out ran.runs.there)) starts.job ran.runs.runs;
    print = ran.print ∙ ran.runs.print ∙ ap (λ (x : AtWork). x.output.print ++ printed ran.runs.out) starts.job;
    disk = ran.disk ∙ ran.runs.disk ∙ ap (λ (x : AtWork). x.output.disk ++ stored ran.runs.out) starts.job;
  };
}

-- the records of both files are as many as their texts
counted : (xs ys : List (Vec ℕ)) (n : ℕ) → n ≤ records_count (records_in xs ys) + 1 → n ≤ length xs + length ys + 1
counted xs ys n h = simp length-map at h

pub run_to_end-requires : goal.run_to_end-requires
run_to_end-requires c =
    let start = c.in_ok-job.ensures.start.job in
    record {
      going = ap (λ (j : AtWork). is_going j.stage) start;
      first = ap (λ (j : AtWork). j.left) start ∙ sym (ap (λ (j : AtWork). left_by j.program []) start);
      files = ap (λ (j : AtWork). j.inputs) start;
      top = ap (λ (j : AtWork). j.last) start;
    }

pub returns-in_err-job-clause-run : goal.returns-in_err-job-clause-run
returns-in_err-job-clause-run c = ok_of_err c.from_residual.result _ _ c.from_residual.ensures.1

pub returns-in_err-job-clause-cycles : goal.returns-in_err-job-clause-cycles
returns-in_err-job-clause-cycles c = ok_of_err c.from_residual.result _ _ c.from_residual.ensures.1

pub returns-in_err-job-clause-bound : goal.returns-in_err-job-clause-bound
returns-in_err-job-clause-bound c = ok_of_err c.from_residual.result _ _ c.from_residual.ensures.1

pub returns-clause-run : goal.returns-clause-run
returns-clause-run c =
    ok_map c.run_to_end.result _ _ (λ r. ran_whole c.args.program.now c.args.date.now c.in_ok-job.job _ r c.in_ok-job.ensures.start) c.run_to_end.ensures.run

pub returns-clause-cycles : goal.returns-clause-cycles
returns-clause-cycles c =
    ok_map c.run_to_end.result _ _ (λ r h. counted c.args.primary.now c.args.secondary.now r.cycles h.runs.few) c.run_to_end.ensures.run

pub returns-clause-bound : goal.returns-clause-bound
returns-clause-bound c =
    subst (λ (p : Object). IfOk c.run_to_end.result (λ r. r.most ≤ bound p)) (ap (λ (j : AtWork). j.program) c.in_ok-job.ensures.start.job)
    (ok_map c.run_to_end.result _ _ (λ r h. h.runs.low) c.run_to_end.ensures.run)
