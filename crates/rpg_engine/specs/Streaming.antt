-- What a cycle requires of two readers, and what happens to its output.
use Rattle.std.specs.Prelude.{◌≡◌, ℕ, ℤ, ◌-◌, ◌^◌, ◌<◌, ◌≤◌, Bool, true, false, List, [], ◌∷◌, Option, None, Some, Result, Ok, Err}
use Rattle.rpg_cycle.specs.Job.{AtWork, Cycles, first_fields, job_needs_record, job_started}
use Rattle.rpg_cycle.specs.Stages.{Ended, Going, Stage, job_end}
use Rattle.rpg_cycle.specs.declared.ends.JobEnd.{JobEnd}
use Rattle.rpg_cycle.specs.declared.jobs.Need.{Need}
use Rattle.rpg_cycle_records.specs.Waiting.{input_at}
use Rattle.rpg_program.specs.declared.input.InputFile.{InputFile}
use Rattle.rpg_program.specs.declared.input.InputFile.TheVariants.{Primary, Secondary}
use Rattle.rpg_files.specs.Counting.{faults_of}
use Rattle.rpg_files.specs.Reading.{IsFresh, ReadsNext, answer_of, is_record, cannot_fail, reader_of, record_of}
use Rattle.rpg_files.specs.declared.reader.Next.{Next}
use Rattle.rpg_files.specs.declared.reader.Next.TheVariants as next
use Rattle.rpg_files.specs.declared.reader.ReadFault.{ReadFault}
use Rattle.rpg_files.specs.declared.reader.RecordReader.{RecordReader}
use Rattle.rpg_program.specs.Object.{Object}
use Rattle.rpg_verify.specs.Bound.{bound}
use Rattle.rpg_engine.specs.Devices.{Lent, OfRead, OfWriters, readers_of}
use Rattle.rpg_engine.specs.Inputs.{Front, OfEach}
use Rattle.rpg_engine.specs.Outputs.{Contents}
use Rattle.rpg_engine.specs.Reporting.{NeedsRecord, StopsOver}
use Rattle.rpg_engine.specs.Running.{ReportsRun}
use Rattle.rpg_engine.specs.declared.fault.CycleFault.{CycleFault}
use Rattle.rpg_engine.specs.declared.fault.CycleFault.TheVariants as stops
use Rattle.rpg_engine.specs.declared.fault.RunFault.{RunFault}
use Rattle.rpg_engine.specs.declared.fault.RunFault.TheVariants as faults
use Rattle.rpg_engine.specs.declared.files.Writers.{Writers}
use Rattle.rpg_engine.specs.declared.report.Report.{Report}

-- ---- one cycle

-- a job that hasn't begun, with readers of its files that have read nothing
pub record IsUnbegun {R S : Type 0} (job : AtWork) (primary : RecordReader R) (secondary : RecordReader S) : Type 0 where
  pub starts : (day : ℤ) × (job ≡ job_started job.program day (first_fields job.program))
  pub fresh_primary : IsFresh job.program.record_length primary
  pub fresh_secondary : IsFresh job.program.secondary_length secondary

-- the stage of a job that continues, or that has ended so
abbrev pub ended_stage : Option JobEnd → Stage
ended_stage None = Going
ended_stage (Some e) = Ended (job_end e)

-- the next cycle of a job reads a record from these files
pub record IsNeedOf (need : Need) (job : AtWork) : Type 0 where
  pub primary : need.primary ≡ job_needs_record job Primary
  pub secondary : need.secondary ≡ job_needs_record job Secondary

-- the reader of a file that isn't over returned a record last
abbrev pub StandsAfterRecord : {R : Type 0} → AtWork → InputFile → RecordReader R → Type 0
StandsAfterRecord job f reader = (input_at job.inputs f).is_over ≡ false → is_record (answer_of reader) ≡ true

-- a reader can be read for the record that a job's next cycle needs: it returned one last, and one more fault of it can be counted
pub record CanReadNext {R : Type 0} (job : AtWork) (f : InputFile) (reader : RecordReader R) : Type 0 where
  pub following : StandsAfterRecord job f reader
  pub faults : faults_of (reader_of reader) < 2 ^ 64 - 1

-- the record for a cycle, by what a reader returned: for a bad record, one that no program accepts
abbrev pub record_with : {R : Type 0} → RecordReader R → Next → Option (List ℕ)
record_with reader next.Record = Some (record_of reader)
record_with reader next.Bad = Some (0 ∷ [])
record_with reader next.End = None

-- a reader returned its next record if that was needed; otherwise it wasn't read
pub record ReadsIfNeeded {R : Type 0} (remaining : R → Option (List ℕ)) (is_needed : Bool) (old : RecordReader R) (answer : Result Next ReadFault) (new : RecordReader R) : Type 0 where
  pub needed : is_needed ≡ true → ReadsNext remaining old answer new × (answer_of new ≡ answer)
  pub unneeded : is_needed ≡ false → (answer ≡ Ok next.End) × (new ≡ old)

-- a file can't fail if a record is needed from it, since the next record is certain
abbrev pub CannotFailIfNeeded : {R : Type 0} → Bool → RecordReader R → Type 0
CannotFailIfNeeded is_needed reader = is_needed ≡ true → cannot_fail reader ≡ true

-- a job did a cycle with these records, in no more steps than its program's bound, and continues or ended so
pub record CyclesTo (job : AtWork) (primary secondary : Option (List ℕ)) (ended : Option JobEnd) (job' : AtWork) : Type 0 where
  pub cycles : Cycles job primary secondary job'
  pub stage : job'.stage ≡ ended_stage ended
  pub bounded : job'.config.steps ≤ bound job'.program

-- a job did a cycle with what the readers of the files that need a record returned, and continues or ended so
pub record TakesCycle {R S : Type 0} (remaining : R → Option (List ℕ)) (others : S → Option (List ℕ)) (job : AtWork) (primary : RecordReader R) (secondary : RecordReader S)
    (ended : Option JobEnd) (job' : AtWork) (primary' : RecordReader R) (secondary' : RecordReader S) : Type 0 where
  pub first : Next
  pub second : Next
  pub reads_primary : ReadsIfNeeded remaining (job_needs_record job Primary) primary (Ok first) primary'
  pub reads_secondary : ReadsIfNeeded others (job_needs_record job Secondary) secondary (Ok second) secondary'
  pub cycle : CyclesTo job (record_with primary' first) (record_with secondary' second) ended job'

-- a reader was read if needed, and returned an answer
abbrev pub HasAnswered : {R : Type 0} → (R → Option (List ℕ)) → Bool → RecordReader R → RecordReader R → Type 0
HasAnswered remaining is_needed old new = (answer : Next) × ReadsIfNeeded remaining is_needed old (Ok answer) new

-- a reader whose record was needed failed
abbrev pub FailsToRead : {R : Type 0} → (R → Option (List ℕ)) → Bool → ReadFault → RecordReader R → RecordReader R → Type 0
FailsToRead remaining is_needed fault old new = (is_needed ≡ true) × ReadsNext remaining old (Err fault) new

-- no cycle was done: the primary's reader failed, or otherwise the secondary's; or memory ran out after they were read
abbrev pub TakesNone : {R S : Type 0} → (R → Option (List ℕ)) → (S → Option (List ℕ)) → AtWork → RecordReader R → RecordReader S → CycleFault → RecordReader R → RecordReader S → Type 0
TakesNone remaining others job primary secondary (stops.Read Primary fault) primary' secondary' =
    FailsToRead remaining (job_needs_record job Primary) fault primary primary' × (secondary' ≡ secondary)
TakesNone remaining others job primary secondary (stops.Read Secondary fault) primary' secondary' =
    HasAnswered remaining (job_needs_record job Primary) primary primary' × FailsToRead others (job_needs_record job Secondary) fault secondary secondary'
TakesNone remaining others job primary secondary stops.NoMemory primary' secondary' =
    HasAnswered remaining (job_needs_record job Primary) primary primary' × HasAnswered others (job_needs_record job Secondary) secondary secondary'

-- ---- where the run stops

-- a run stopped early: each writer has such prefixes of its output, and if a reader failed, the job waited for its record
pub record StopsEarly (p : Object) (day : ℤ) (e : RunFault) (before after : Contents) (a b : Front) : Type 0 where
  pub stops : OfEach a b (StopsOver p day e before after)
  pub needs : (file : InputFile) (fault : ReadFault) → e ≡ faults.Read file fault → NeedsRecord p day file fault before after a b

-- a fault of a run that has begun
abbrev pub IsRunFault : RunFault → Type 0
IsRunFault (faults.Read file fault) = Unit {0}
IsRunFault (faults.Write file sent) = Unit {0}
IsRunFault (faults.NoMemory cycles) = Unit {0}
IsRunFault e = ⊥

-- ---- the run of a job that hadn't begun, over record readers

module _ {R S P D : Type 0} (remaining : R → Option (List ℕ)) (others : S → Option (List ℕ)) (contents : P → Option (List ℕ)) (stored : D → Option (List ℕ)) where
  -- The report and all output are those of the run of a job that hadn't begun.
  abbrev pub ReportsFrom : AtWork → Lent (RecordReader R) → Lent (RecordReader S) → Lent (Writers P D) → Report → Type 0
  ReportsFrom job primary secondary writers report = (day : ℤ) → job ≡ job_started job.program day (first_fields job.program)
      → ReportsRun remaining others contents stored job.program day (readers_of primary.entry.now secondary.entry.now) (readers_of primary.exit.now secondary.exit.now) writers.entry.now writers.exit.now report

  -- The run of a job that hadn't begun stopped early.
  abbrev pub StopsFrom : AtWork → Lent (RecordReader R) → Lent (RecordReader S) → Lent (Writers P D) → RunFault → Type 0
  StopsFrom job primary secondary writers e = (day : ℤ) → job ≡ job_started job.program day (first_fields job.program)
      → OfRead remaining others (readers_of primary.entry.now secondary.entry.now) (readers_of primary.exit.now secondary.exit.now)
      (OfWriters contents stored writers.entry.now writers.exit.now (StopsEarly job.program day e))
