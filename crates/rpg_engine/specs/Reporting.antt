-- What is reported of a run, and what each writer gets of its output.
use Rattle.std.specs.Prelude.{◌≡◌, ℕ, zero, suc, ◌+◌, ◌<◌, ◌≤◌, ◌⊎◌, ℤ, true, false, List, [], ◌++◌, length, Option, None, Some}
use Rattle.std.specs.Io.KnownBytes.{Appends}
use Rattle.std.specs.declared.cmp.Ordering.{Ordering}
use Rattle.std.specs.declared.cmp.Ordering.TheVariants.{Less, Equal, Greater}
use Rattle.rpg_cycle.specs.Counting.{records_count}
use Rattle.rpg_cycle.specs.Ends.{Continues}
use Rattle.rpg_cycle.specs.Job.{first_fields}
use Rattle.rpg_cycle.specs.Phases.{Cycle, UnderWay, begun, needs_record}
use Rattle.rpg_cycle.specs.Runs.{Course, IsRun, Records, first_if_any, left_following, next_of}
use Rattle.rpg_cycle.specs.Stages.{job_end}
use Rattle.rpg_cycle.specs.Starting.{date_in, job_start}
use Rattle.rpg_cycle_records.specs.Earlier.{Selected, with_record}
use Rattle.rpg_cycle_records.specs.Identifying.{is_valid_record}
use Rattle.rpg_cycle_records.specs.Waiting.{Inputs, unread}
use Rattle.rpg_cycle_safety.specs.Coming.{HasRun, RunsWell}
use Rattle.rpg_program.specs.Put.{Bytes, disk_bytes}
use Rattle.rpg_program.specs.declared.input.InputFile.{InputFile}
use Rattle.rpg_program.specs.declared.input.InputFile.TheVariants.{Primary, Secondary}
use Rattle.rpg_files.specs.NextLine.{CanFollow}
use Rattle.rpg_files.specs.Records.{max_records, records}
use Rattle.rpg_files.specs.Sending.{AppendsFirst, AppendsPrefix}
use Rattle.rpg_files.specs.declared.reader.ReadFault.{ReadFault}
use Rattle.rpg_files.specs.declared.reader.ReadFault.TheVariants as reading
use Rattle.rpg_machine.specs.Config.{Config, Output, no_output, with_more}
use Rattle.rpg_machine.specs.Run.{running_place}
use Rattle.rpg_program.specs.Kept.{IsProgram}
use Rattle.rpg_program.specs.Object.{Object}
use Rattle.rpg_paper.specs.Paper.{paper}
use Rattle.rpg_text.specs.Lines.{is_line}
use Rattle.rpg_verify.specs.Bound.{bound}
use Rattle.rpg_verify_rules.specs.Accepted.{IsAccepted}
use Rattle.rpg_engine.specs.Inputs.{Front, OfEach, bytes_of_input, records_of}
use Rattle.rpg_engine.specs.Outputs.{Contents, HaveAll, HaveParts, bytes_for, order}
use Rattle.rpg_engine.specs.declared.fault.RunFault.{RunFault}
use Rattle.rpg_engine.specs.declared.fault.RunFault.TheVariants as faults
use Rattle.rpg_engine.specs.declared.files.OutputFile.{OutputFile}
use Rattle.rpg_engine.specs.declared.report.Report.{Report}

-- the run of a program over the records of a primary and of a secondary input, with a date and with its first values
abbrev pub IsRunOver : Object → ℤ → (primary secondary : List ℕ) → Course → Bytes → Type 0
IsRunOver p day primary secondary course bytes = IsRun p day (first_fields p) (records_of primary secondary) course bytes

-- the report is that of the run over the inputs' records, with the place that the run reached at its end, and each writer has all of its bytes
pub record Reports (p : Object) (day : ℤ) (report : Report) (before after : Contents) (primary secondary : List ℕ) : Type 0 where
  pub course : Course
  pub bytes : Bytes
  pub run : IsRunOver p day primary secondary course bytes
  pub ending : job_end report.ending ≡ course.ending
  pub cycles : report.cycles ≡ course.cycles
  pub most : report.most ≡ course.most
  pub bound : report.bound ≡ bound p
  pub place : report.place ≡ running_place p course.there.config
  pub few : report.most ≤ report.bound
  pub sent : HaveAll before after bytes

-- The report is of a run that ends well: at the end of the job or at a halt with a number from 1 to 8, never wrong, within one cycle more
-- than both inputs have records; and no cycle takes more steps than the program's bound.
pub record JobEndsWell (p : Object) (day : ℤ) (report : Report) (primary secondary : List ℕ) : Type 0 where
  pub course : Course
  pub bytes : Bytes
  pub run : IsRunOver p day primary secondary course bytes
  pub well : RunsWell p (records_count (records_of primary secondary)) course
  pub ending : job_end report.ending ≡ course.ending
  pub cycles : report.cycles ≡ course.cycles
  pub most : report.most ≡ course.most

-- an accepted program has a run over any records of both files, on any date, from its first values
abbrev pub HasRunOnAnyDay : Object → Type 0
HasRunOnAnyDay p = (date : List ℕ) (day : ℤ) (rs : Records) → IsProgram p → IsAccepted p → date_in date ≡ Some day → HasRun p day (first_fields p) rs

-- and each such run ends well
abbrev pub EachRunEndsWell : Object → Type 0
EachRunEndsWell p = (date : List ℕ) (day : ℤ) (rs : Records) (course : Course) (bytes : Bytes) → IsProgram p → IsAccepted p → date_in date ≡ Some day
    → IsRun p day (first_fields p) rs course bytes → RunsWell p (records_count rs) course

-- The writer that failed has as many bytes of its output as the fault reports, and every other one a prefix.
abbrev pub HasParts : RunFault → (before after : Contents) → Bytes → Type 0
HasParts (faults.Write failed sent) before after bytes = AppendsFirst (before failed) (after failed) sent (bytes_for failed bytes) × HaveParts before after bytes
HasParts e before after bytes = HaveParts before after bytes

-- such prefixes of the bytes of the run over the inputs' records
abbrev pub SendsFirstParts : Object → ℤ → RunFault → (before after : Contents) → (primary secondary : List ℕ) → Type 0
SendsFirstParts p day e before after primary secondary =
    (course : Course) (bytes : Bytes) → IsRunOver p day primary secondary course bytes → HasParts e before after bytes

-- The given number of cycles of a run, after earlier records, went on one after another and output this; Then holds of what they led to:
-- the earlier records, the remaining records, the configuration and the files.
abbrev pub ContinuesFor : ℕ → Object → List Selected → Records → Config → Inputs → Output → (List Selected → Records → Config → Inputs → Type 0) → Type 0
ContinuesFor zero p earlier rs c i out Then = (out ≡ no_output) × Then earlier rs c i
ContinuesFor (suc n) p earlier rs c i out Then =
    (d : UnderWay) × (first : Output) × (more : Output)
    × Cycle p earlier (next_of (needs_record p c i Primary) rs.primary) (next_of (needs_record p c i Secondary) rs.secondary) (begun p c i) Continues d first
    × (out ≡ with_more first more)
    × ContinuesFor n p (with_record d.selected earlier) (left_following p c i rs) d.config d.inputs more Then

-- the given number of cycles of the run over the inputs' records
abbrev pub WentOn : ℕ → Object → ℤ → (primary secondary : List ℕ) → Output → (List Selected → Records → Config → Inputs → Type 0) → Type 0
WentOn cycles p day primary secondary out Then = ContinuesFor cycles p [] (records_of primary secondary) (job_start p day (first_fields p)) unread out Then

-- ---- what the writers have

-- the bytes of what is output
abbrev pub bytes_of : Output → Bytes
bytes_of out = record { print = paper out.lines; disk = disk_bytes out.records }

-- the given number of cycles of the run went on, and output these bytes
abbrev pub IsOutputBy : ℕ → Object → ℤ → (primary secondary : List ℕ) → Bytes → Type 0
IsOutputBy cycles p day primary secondary bytes = (out : Output) × WentOn cycles p day primary secondary out (λ earlier rs c i. Unit {0}) × (bytes ≡ bytes_of out)

-- these bytes had been output by the end of a cycle that went on
abbrev pub IsOutputSoFar : Object → ℤ → (primary secondary : List ℕ) → Bytes → Type 0
IsOutputSoFar p day primary secondary bytes = (cycles : ℕ) × IsOutputBy cycles p day primary secondary bytes

-- or by the end of the one that ended the job; if memory ran out, by the end of as many cycles as the fault reports
abbrev pub MayBeOutput : RunFault → Object → ℤ → (primary secondary : List ℕ) → Bytes → Type 0
MayBeOutput (faults.NoMemory cycles) p day primary secondary bytes = IsOutputBy cycles p day primary secondary bytes
MayBeOutput e p day primary secondary bytes = IsOutputSoFar p day primary secondary bytes ⊎ ((course : Course) × IsRunOver p day primary secondary course bytes)

-- what a file has of its bytes if a writer failed: all if it was sent before that one, `sent` bytes if it is that one, otherwise a prefix
abbrev pub HasUpTo : Ordering → (sent : ℕ) → (before after : Option (List ℕ)) → List ℕ → Type 0
HasUpTo Less sent before after bytes = Appends before after bytes
HasUpTo Equal sent before after bytes = AppendsFirst before after sent bytes × (sent < length bytes)
HasUpTo Greater sent before after bytes = AppendsPrefix before after bytes

-- The files are sent these bytes in order, up to the one whose writer failed. If memory ran out each has all of them.
abbrev pub HasSent : RunFault → (before after : Contents) → Bytes → Type 0
HasSent (faults.Write failed sent) before after bytes = (file : OutputFile) → HasUpTo (order file failed) sent (before file) (after file) (bytes_for file bytes)
HasSent (faults.NoMemory cycles) before after bytes = HaveAll before after bytes
HasSent e before after bytes = Unit {0}

-- of the run over the inputs' records each writer has a prefix, of what was output by the end of a cycle
pub record StopsOver (p : Object) (day : ℤ) (e : RunFault) (before after : Contents) (primary secondary : List ℕ) : Type 0 where
  pub parts : SendsFirstParts p day e before after primary secondary
  pub bytes : Bytes
  pub write_line_out : MayBeOutput e p day primary secondary bytes
  pub sent : HasSent e before after bytes

-- ---- a reader that failed

-- a record that no program accepts
abbrev pub IsBad : Object → InputFile → Option (List ℕ) → Type 0
IsBad p f None = ⊥
IsBad p f (Some r) = is_valid_record p f r ≡ false

-- they are the same, or both are bad
abbrev pub AreSameOrBad : Object → InputFile → Option (List ℕ) → Option (List ℕ) → Type 0
AreSameOrBad p f x y = (x ≡ y) ⊎ (IsBad p f x × IsBad p f y)

-- the records of a file
abbrev pub records_of_file : InputFile → Records → List (List ℕ)
records_of_file Primary rs = rs.primary
records_of_file Secondary rs = rs.secondary

-- Of these records those are left, and the next one hadn't been read: only part of a line of what is left was read; or it is one more than
-- an input may have.
abbrev pub IsUnread : ReadFault → (all left : List (List ℕ)) → (part more : List ℕ) → Type 0
IsUnread reading.Device all left part more = (is_line part ≡ true) × (left ≡ records (part ++ more))
IsUnread reading.TooMany all left part more = (0 < length left) × (length all ≡ max_records + length left)

-- The next cycle needs a record of a file that hadn't been read. The primary's reader is read first: if it isn't the one that failed, the
-- record needed from its file is known, whatever follows.
pub record WaitsFor (p : Object) (file : InputFile) (fault : ReadFault) (all left : Records) (c : Config) (i : Inputs) (part more : List ℕ) (known : Option (List ℕ)) : Type 0 where
  pub needed : needs_record p c i file ≡ true
  pub unread : IsUnread fault (records_of_file file all) (records_of_file file left) part more
  pub first : file ≡ Secondary → needs_record p c i Primary ≡ true → AreSameOrBad p Primary known (first_if_any left.primary)

-- The job hadn't ended: the given number of cycles of the run over the inputs' records went on, each writer has exactly what they output,
-- and the next waits for a record of the reader that failed. So each run over them has more cycles.
pub record NeedsRecord (p : Object) (day : ℤ) (file : InputFile) (fault : ReadFault) (before after : Contents) (a b : Front) : Type 0 where
  pub cycles : ℕ
  pub out : Output
  pub part : List ℕ
  pub known : Option (List ℕ)
  pub sent : HaveAll before after (bytes_of out)
  pub continues : (more following : List ℕ) → CanFollow a.ended more → CanFollow b.ended following → WentOn cycles p day (a.read ++ more) (b.read ++ following) out
      (λ earlier rs c i. WaitsFor p file fault (records_of (a.read ++ more) (b.read ++ following)) rs c i part (bytes_of_input file more following) known)
  pub longer : OfEach a b (λ primary secondary. (course : Course) (bytes : Bytes) → IsRunOver p day primary secondary course bytes → cycles < course.cycles)

-- there is a run over the inputs' records, and each writer has such prefixes of its bytes; if a reader failed, the job waited for its
-- record
pub record SendsParts (p : Object) (day : ℤ) (e : RunFault) (before after : Contents) (a b : Front) : Type 0 where
  pub run : OfEach a b (λ primary secondary. HasRun p day (first_fields p) (records_of primary secondary))
  pub stops : OfEach a b (StopsOver p day e before after)
  pub needs : (file : InputFile) (fault : ReadFault) → e ≡ faults.Read file fault → NeedsRecord p day file fault before after a b
