-- A run of a compiled program is a run of its cards, and the cards have no other.
use Rattle.std.proofs.Common.{◌≡◌, ◌+◌, ◌≤◌, ℕ, ℤ, List, Some, ap, sym, ◌∙◌, subst}
use Rattle.rpg_cards.specs.declared.spec_card.SpecCard.{SpecCard}
use Rattle.rpg_cycle.specs.Counting.{records_count}
use Rattle.rpg_cycle.specs.Job.{first_fields}
use Rattle.rpg_cycle.specs.Runs.{Course, IsRun, Records}
use Rattle.rpg_cycle.specs.Starting.{date_in}
use Rattle.rpg_cycle_safety.specs.Coming.{HasRun, RunsWell}
use Rattle.rpg_program.specs.Put.{Bytes}
use Rattle.rpg_engine.specs.Inputs.{records_of}
use Rattle.rpg_engine.specs.Outputs.{Contents}
use Rattle.rpg_engine.specs.Reporting.{Reports, SendsFirstParts}
use Rattle.rpg_engine.specs.declared.fault.RunFault.{RunFault}
use Rattle.rpg_engine.specs.declared.report.Report.{Report}
use Rattle.rpg_meaning.proofs.Jobs.OneRun.{runs_are_one}
use Rattle.rpg_meaning.specs.Jobs.Meant.{DoesAsMeant}
use Rattle.rpg_meaning.specs.Jobs.Runs.{MeantCourse}
use Rattle.rpg_meaning.specs.Jobs.Sources.{job_of}
use Rattle.rpg_program.specs.Object.{Object}
use Rattle.rpg_meaning.specs.Sources.Printing.{OnlyRun, PrintsAsMeant, SendsPartsAsMeant}

module _ (cards : List SpecCard) (allowance : ℕ) (p : Object) (digits : List ℕ) (day : ℤ) (does : DoesAsMeant cards allowance p) (dated : date_in digits ≡ Some day)
    (each : (records : Records) (course : Course) (bytes : Bytes) → IsRun p day (first_fields p) records course bytes → RunsWell p (records_count records) course) where
  abbrev pub only_run : (records : Records) (course : Course) (bytes : Bytes) → IsRun p day (first_fields p) records course bytes → OnlyRun cards allowance day records
  only_run records course bytes run =
      let s = does.start day in
      let m = does.jobs digits day dated s.0 s.1 records course bytes run in
      record {
        course = m.meant;
        bytes = bytes;
        run = record { start = s.0; starts = s.1; run = m.run };
        few = subst (λ n. n ≤ records_count records + 1) m.cycles (each records course bytes run).cycles;
        only = λ other theirs h.
            let n = does.jobs digits day dated h.start h.starts records course bytes run in
            let same = runs_are_one (job_of cards allowance) h.start records other n.meant theirs bytes h.run n.run in (
              ap (λ (k : MeantCourse). k.ending) same.0 ∙ (sym n.ending ∙ m.ending),
              ap (λ (k : MeantCourse). k.cycles) same.0 ∙ (sym n.cycles ∙ m.cycles),
              same.1,
            );
      }

  pub prints : (report : Report) (before after : Contents) (primary secondary : List ℕ) → Reports p day report before after primary secondary
      → PrintsAsMeant cards allowance day report before after primary secondary
  prints report before after primary secondary r =
      let s = does.start day in
      let m = does.jobs digits day dated s.0 s.1 (records_of primary secondary) r.course r.bytes r.run in
      record {
        meant = only_run (records_of primary secondary) r.course r.bytes r.run;
        ending = r.ending ∙ m.ending;
        cycles = r.cycles ∙ m.cycles;
        sent = r.sent;
      }

  pub sends_parts : ((records : Records) → HasRun p day (first_fields p) records) → (e : RunFault) (before after : Contents) (primary secondary : List ℕ)
      → SendsFirstParts p day e before after primary secondary → SendsPartsAsMeant cards allowance day e before after primary secondary
  sends_parts exists e before after primary secondary sends =
      let h = exists (records_of primary secondary) in
      record {
        meant = only_run (records_of primary secondary) h.course h.bytes h.run;
        parts = sends h.course h.bytes h.run;
      }
