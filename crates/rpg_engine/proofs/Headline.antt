-- Each run of an accepted program ends well, and there is one.
use Rattle.std.proofs.Common.{ℕ, List, ◌++◌, Option, Result, Ok, Err}
use Rattle.std.specs.Prelude.{ℤ, IfErr, IfOk}
use Rattle.rpg_cycle.specs.Counting.{records_count}
use Rattle.rpg_cycle.specs.Job.{first_fields}
use Rattle.rpg_cycle.specs.Runs.{Course, IsRun, Records}
use Rattle.rpg_cycle_safety.specs.Coming.{HasRun, RunsWell}
use Rattle.rpg_program.specs.Put.{Bytes}
use Rattle.rpg_program.specs.Object.{Object}
use Rattle.rpg_engine.specs.Devices.{OfRead, OfWriters}
use Rattle.rpg_engine.specs.Inputs.{OfFronts, OfInputs, records_of}
use Rattle.rpg_engine.specs.Outputs.{Contents}
use Rattle.rpg_engine.specs.Reporting.{JobEndsWell, Reports, SendsParts}
use Rattle.rpg_engine.specs.Running.{ReportsRun, RunsOnDay}
use Rattle.rpg_engine.specs.Streaming.{StopsEarly}
use Rattle.rpg_engine.specs.declared.fault.RunFault.{RunFault}
use Rattle.rpg_engine.specs.declared.files.Readers.{Readers}
use Rattle.rpg_engine.specs.declared.files.Writers.{Writers}
use Rattle.rpg_engine.specs.declared.report.Report.{Report}

-- what holds of each two inputs that begin so
pub of_each : (given left others rest : Option (List ℕ)) (Fact Other : List ℕ → List ℕ → Type 0) → ((primary secondary : List ℕ) → Fact primary secondary → Other primary secondary)
    → OfInputs given left others rest Fact → OfInputs given left others rest Other
of_each given left others rest Fact Other each h = record {
  primary = h.primary;
  secondary = h.secondary;
  fact = λ more following can can_too. each (h.primary.read ++ more) (h.secondary.read ++ following) (h.fact more following can can_too);
}

module _ (p : Object) (day : ℤ) where
  ends_well : (each : (rs : Records) (course : Course) (bytes : Bytes) → IsRun p day (first_fields p) rs course bytes → RunsWell p (records_count rs) course)
      (report : Report) (before after : Contents) (primary secondary : List ℕ) → Reports p day report before after primary secondary → JobEndsWell p day report primary secondary
  ends_well each report before after primary secondary r =
      record {
        course = r.course;
        bytes = r.bytes;
        run = r.run;
        well = each (records_of primary secondary) r.course r.bytes r.run;
        ending = r.ending;
        cycles = r.cycles;
        most = r.most;
      }

  pub report_ends_well : ((rs : Records) (course : Course) (bytes : Bytes) → IsRun p day (first_fields p) rs course bytes → RunsWell p (records_count rs) course)
      → (given left others rest : Option (List ℕ)) (report : Report) (before after : Contents) → OfInputs given left others rest (Reports p day report before after)
      → OfInputs given left others rest (JobEndsWell p day report)
  report_ends_well each given left others rest report before after h = of_each given left others rest _ _ (ends_well each report before after) h

  pub with_run : ((rs : Records) → HasRun p day (first_fields p) rs) → (given left others rest : Option (List ℕ)) (e : RunFault) (before after : Contents)
      → OfFronts given left others rest (StopsEarly p day e before after) → OfFronts given left others rest (SendsParts p day e before after)
  with_run exists given left others rest e before after h = record {
    primary = h.primary;
    secondary = h.secondary;
    fact = record {
      run = λ more following can can_too. exists (records_of (h.primary.read ++ more) (h.secondary.read ++ following));
      stops = h.fact.stops;
      needs = h.fact.needs;
    };
  }

-- a run of an accepted program ends well, or it stopped early and there is one
pub runs_on_day : {R S P D : Type 0} (remaining : R → Option (List ℕ)) (others : S → Option (List ℕ)) (contents : P → Option (List ℕ)) (stored : D → Option (List ℕ))
    (p : Object) (day : ℤ) (old new : Readers R S) (before after : Writers P D) (result : Result Report RunFault)
    → ((rs : Records) → HasRun p day (first_fields p) rs)
    → ((rs : Records) (course : Course) (bytes : Bytes) → IsRun p day (first_fields p) rs course bytes → RunsWell p (records_count rs) course)
    → IfOk result (ReportsRun remaining others contents stored p day old new before after)
    → IfErr result (λ e. OfRead remaining others old new (OfWriters contents stored before after (StopsEarly p day e)))
    → RunsOnDay remaining others contents stored p day old new before after result
runs_on_day remaining others contents stored p day old new before after (Ok report) exists each reports stops = record {
  headline = report_ends_well p day each _ _ _ _ report _ _ reports;
  report = reports;
  early = tt;
}
runs_on_day remaining others contents stored p day old new before after (Err e) exists each reports stops = record {
  headline = tt;
  report = tt;
  early = with_run p day exists _ _ _ _ e _ _ stops;
}
