-- The answer for a run whose writers are flushed after it.
use Rattle.std.specs.Prelude.{ℕ, List, Option, Result, Ok, Err}
use Rattle.rpg_cli_words.specs.declared.files.FileArgument.{FileArgument}
use Rattle.rpg_cli_words.specs.declared.files.FileArgument.TheVariants as arguments
use Rattle.rpg_cli_jobs.specs.declared.running.Running.{Running}
use Rattle.rpg_cli_jobs.specs.declared.running.Running.TheVariants as runnables
use Rattle.rpg_engine.specs.Devices.{Lent}
use Rattle.rpg_engine.specs.Faults.{Counts, FaultsAre, OnlyRises, Writer, device_counts}
use Rattle.rpg_engine.specs.Running.{RunsProgram}
use Rattle.rpg_engine.specs.declared.fault.RunFault.{RunFault}
use Rattle.rpg_engine.specs.declared.files.OutputFile.TheVariants.{Print, Disk}
use Rattle.rpg_engine.specs.declared.files.Readers.{Readers}
use Rattle.rpg_engine.specs.declared.files.Writers.{Writers}
use Rattle.rpg_engine.specs.declared.report.Report.{Report}
use Rattle.rpg_files.specs.Counting.{device_of}
use Rattle.rpg_meaning.specs.Sources.Running.{RunsSource}
use Rattle.rpg_cli_answers.specs.declared.answer.Answer.{Answer}
use Rattle.rpg_cli_answers.specs.declared.answer.Answer.TheVariants as answers

-- A fault of the run is passed on as it is. That of a file is a flush after a run that gave a report. There is no other answer.
abbrev pub ReportsFault : (Result Report RunFault → Type 0) → Answer → Type 0
ReportsFault Came (answers.Run fault) = Came (Err fault)
ReportsFault Came (answers.File argument fault) = (report : Report) × Came (Ok report)
ReportsFault Came e = ⊥

-- the answer is the run's own: its report, or its fault
abbrev pub AnswersRun : (Result Report RunFault → Type 0) → Result Report Answer → Type 0
AnswersRun Came (Ok report) = Came (Ok report)
AnswersRun Came (Err e) = ReportsFault Came e

-- the flush of a writer failed, and no other call of it
abbrev pub FlushFaults : FileArgument → Counts → Counts → Type 0
FlushFaults arguments.Print old new = OnlyRises (Writer Print) old new
FlushFaults arguments.Disk old new = OnlyRises (Writer Disk) old new
FlushFaults argument old new = ⊥

-- A fault of the run agrees with the counts, and that of a file comes exactly if that writer's count rose by one.
abbrev pub ReportsFaults : Result Report Answer → (given left others rest : Option (List ℕ)) → Counts → Counts → Type 0
ReportsFaults (Ok report) given left others rest old new = FaultsAre {X = Report} (Ok report) given left others rest old new
ReportsFaults (Err (answers.Run fault)) given left others rest old new = FaultsAre {X = Report} (Err fault) given left others rest old new
ReportsFaults (Err (answers.File argument fault)) given left others rest old new = FlushFaults argument old new
ReportsFaults (Err e) given left others rest old new = ⊥

-- The same for readers and writers that are lent to a call.
abbrev pub AnswersWhoseFault : {R S P D : Type 0} → (R → Option (List ℕ)) → (S → Option (List ℕ)) → Lent (Readers R S) → Lent (Writers P D) → Result Report Answer → Type 0
AnswersWhoseFault remaining others readers writers result = ReportsFaults result (remaining (device_of readers.entry.now.primary)) (remaining (device_of readers.exit.now.primary))
    (others (device_of readers.entry.now.secondary)) (others (device_of readers.exit.now.secondary))
    (device_counts readers.entry.now writers.entry.now) (device_counts readers.exit.now writers.exit.now)

module _ {R S P D : Type 0} (remaining : R → Option (List ℕ)) (others : S → Option (List ℕ)) (contents : P → Option (List ℕ)) (stored : D → Option (List ℕ)) where
  -- an object's program runs as its rows say, and a source as its cards say and as its program does
  abbrev pub AnswersRunOf : Running → (date : List ℕ) → Lent (Readers R S) → Lent (Writers P D) → Result Report Answer → Type 0
  AnswersRunOf (runnables.Program program) date readers writers given = AnswersRun (RunsProgram remaining others contents stored program.now date readers writers) given
  AnswersRunOf (runnables.Source source) date readers writers given =
      AnswersRun (RunsSource remaining others contents stored source.now date readers writers) given
      × AnswersRun (RunsProgram remaining others contents stored source.now.program date readers writers) given
