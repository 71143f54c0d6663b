-- What holds for a run stays true once its writers have kept what they hold.
use Rattle.std.proofs.Common.{ℕ, ℤ, List, Option, Ok}
use Rattle.std.proofs.KnownBytes.{Appends-kept}
use Rattle.std.specs.Io.KnownBytes.{Keeps}
use Rattle.rpg_program.specs.Object.{Object}
use Rattle.rpg_engine.proofs.Headline.{of_each}
use Rattle.rpg_engine.specs.Devices.{file_contents}
use Rattle.rpg_engine.specs.Outputs.{Contents, bytes_for}
use Rattle.rpg_engine.specs.Reporting.{Reports}
use Rattle.rpg_engine.specs.Running.{IsProgramRun}
use Rattle.rpg_engine.specs.declared.files.OutputFile.{OutputFile}
use Rattle.rpg_engine.specs.declared.files.Readers.{Readers}
use Rattle.rpg_engine.specs.declared.files.Writers.{Writers}
use Rattle.rpg_engine.specs.declared.report.Report.{Report}

reports_kept : (p : Object) (report : Report) (before after flushed : Contents) → ((file : OutputFile) → Keeps (after file) (flushed file))
    → (day : ℤ) (primary secondary : List ℕ) → Reports p day report before after primary secondary → Reports p day report before flushed primary secondary
reports_kept p report before after flushed kept day primary secondary r = record {
  course = r.course;
  bytes = r.bytes;
  run = r.run;
  ending = r.ending;
  cycles = r.cycles;
  most = r.most;
  bound = r.bound;
  place = r.place;
  few = r.few;
  sent = λ file. Appends-kept (before file) (after file) (flushed file) (bytes_for file r.bytes) (r.sent file) (kept file);
}

-- a run that gave a report, whose writers were flushed after it
pub run_kept : {R S P D : Type 0} (remaining : R → Option (List ℕ)) (others : S → Option (List ℕ)) (contents : P → Option (List ℕ)) (stored : D → Option (List ℕ))
    (p : Object) (date : List ℕ) (old new : Readers R S) (before after flushed : Writers P D) (report : Report)
    → ((file : OutputFile) → Keeps (file_contents contents stored after file) (file_contents contents stored flushed file))
    → IsProgramRun remaining others contents stored p date old new before after (Ok report) → IsProgramRun remaining others contents stored p date old new before flushed (Ok report)
run_kept remaining others contents stored p date old new before after flushed report kept ran = record {
  refused = ran.refused;
  untouched = λ none. absurd (let dated = ran.refused.1 in cc);
  alone = ran.alone;
  run = λ day dated.
      let on = ran.run day dated in
      record {
        headline = on.headline;
        report = of_each _ _ _ _ _ _ (reports_kept p report _ _ _ kept day) on.report;
        early = tt;
      };
}
