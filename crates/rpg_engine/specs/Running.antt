-- What a call that runs a job over its readers and writers promises.
use Rattle.std.specs.Prelude.{◌≡◌, ℕ, ℤ, List, None, Option, Some, Result, IfErr, IfOk}
use Rattle.rpg_cycle.specs.Starting.{date_in}
use Rattle.rpg_files.specs.declared.counting.Counted.{Counted}
use Rattle.rpg_program.specs.Object.{Object}
use Rattle.rpg_engine.specs.Devices.{Lent, OfRead, OfReaders, OfWriters, both}
use Rattle.rpg_engine.specs.Objects.{SpellsProgram}
use Rattle.rpg_engine.specs.Refusing.{IsJobOf, IsReportOf, IsReportOfDate, MayRun}
use Rattle.rpg_engine.specs.Reporting.{JobEndsWell, Reports, SendsParts}
use Rattle.rpg_engine.specs.declared.fault.RunFault.{RunFault}
use Rattle.rpg_engine.specs.declared.files.Readers.{Readers}
use Rattle.rpg_engine.specs.declared.files.Writers.{Writers}
use Rattle.rpg_engine.specs.declared.report.Report.{Report}

module _ {R S P D : Type 0} (remaining : R → Option (List ℕ)) (others : S → Option (List ℕ)) (contents : P → Option (List ℕ)) (stored : D → Option (List ℕ)) where
  -- The report and all output are those of the program's run on a day over the inputs' records.
  abbrev pub ReportsRun : Object → ℤ → (old new : Readers R S) → (before after : Writers P D) → Report → Type 0
  ReportsRun p day old new before after report = OfReaders remaining others old new (OfWriters contents stored before after (Reports p day report))

  -- Each writer has a prefix of that run's output, and if a reader failed, the job waited for its record.
  abbrev pub SendsPartsOfRun : Object → ℤ → (old new : Readers R S) → (before after : Writers P D) → RunFault → Type 0
  SendsPartsOfRun p day old new before after e = OfRead remaining others old new (OfWriters contents stored before after (SendsParts p day e))

  -- what holds of the run of a program on a day
  pub record RunsOnDay (p : Object) (day : ℤ) (old new : Readers R S) (before after : Writers P D) (result : Result Report RunFault) : Type 0 where
    -- The job ends, at its end or at a halt, within one cycle more than both inputs have records, and no cycle takes more steps than the bound.
    pub headline : IfOk result (λ report. OfReaders remaining others old new (JobEndsWell p day report))
    -- The report and all output are those of the run over the inputs' records.
    pub report : IfOk result (ReportsRun p day old new before after)
    -- If it stops early, each writer has a prefix of the run's output, the printer's before the disk file's; if a reader failed, the job
    -- had sent all its output, and waited for a record of that reader's file; and if memory ran out, each writer has the output of as many
    -- cycles as the fault reports.
    pub early : IfErr result (SendsPartsOfRun p day old new before after)

  -- what holds of the run of an accepted program on the day that a date spells
  pub record IsProgramRun (p : Object) (date : List ℕ) (old new : Readers R S) (before after : Writers P D) (result : Result Report RunFault) : Type 0 where
    -- A bad date is reported. Then nothing is read or written.
    pub refused : IsReportOfDate result date
    pub untouched : date_in date ≡ None → (new ≡ old) × (after ≡ before)
    -- The secondary input is never read if the program has no such file.
    pub alone : p.secondary_length ≡ 0 → new.secondary ≡ old.secondary
    pub run : (day : ℤ) → date_in date ≡ Some day → RunsOnDay p day old new before after result

  -- what holds of the run of the program that an object's bytes spell
  pub record IsObjectRun (object date : List ℕ) (old new : Readers R S) (before after : Writers P D) (result : Result Report RunFault) : Type 0 where
    -- First the object is checked, then its rules, then the date. If one of them is wrong, nothing is read or written.
    pub refused : IsReportOf result object date
    pub untouched : (MayRun object date → ⊥) → (new ≡ old) × (after ≡ before)
    -- The secondary input is never read if the program has no such file.
    pub alone : (p : Object) → SpellsProgram object p → p.secondary_length ≡ 0 → new.secondary ≡ old.secondary
    pub run : (p : Object) (day : ℤ) → IsJobOf object date p day → RunsOnDay p day old new before after result

  -- ---- of readers and writers that are lent to a call

  -- the call runs an accepted program
  abbrev pub RunsProgram : Object → (date : List ℕ) → Lent (Readers R S) → Lent (Writers P D) → Result Report RunFault → Type 0
  RunsProgram p date readers writers result = IsProgramRun p date readers.entry.now readers.exit.now writers.entry.now writers.exit.now result

  -- the same with the two readers lent one by one
  abbrev pub RunsProgramOver : Object → (date : List ℕ) → Lent (Counted R) → Lent (Counted S) → Lent (Writers P D) → Result Report RunFault → Type 0
  RunsProgramOver p date primary secondary writers result =
      IsProgramRun p date (both primary.entry.now secondary.entry.now) (both primary.exit.now secondary.exit.now) writers.entry.now writers.exit.now result

  -- the call runs the program of an object's bytes
  abbrev pub RunsObject : (object date : List ℕ) → Lent (Readers R S) → Lent (Writers P D) → Result Report RunFault → Type 0
  RunsObject object date readers writers result = IsObjectRun object date readers.entry.now readers.exit.now writers.entry.now writers.exit.now result
