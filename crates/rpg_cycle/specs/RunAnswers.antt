-- What `run_records` returns.
use Rattle.std.specs.Prelude.{◌≡◌, ℕ, ℤ, ◌+◌, ◌≤◌, true, List, [], ◌++◌, None, Some, map}
use Rattle.std.specs.Global.{Vec}
use Rattle.rpg_cycle_records.specs.Earlier.{left_by}
use Rattle.rpg_cycle_records.specs.Waiting.{unread}
use Rattle.rpg_cycle.specs.Counting.{records_count}
use Rattle.rpg_cycle.specs.Job.{AtWork, first_fields}
use Rattle.rpg_cycle.specs.Phases.{UnderWay}
use Rattle.rpg_cycle.specs.Runs.{Course, IsRun, Records, Runs, printed, stored}
use Rattle.rpg_cycle.specs.Stages.{is_going, job_end}
use Rattle.rpg_cycle.specs.Starting.{date_in}
use Rattle.rpg_cycle.specs.declared.runs.Run.{Run}
use Rattle.rpg_cycle.specs.declared.runs.Summary.{Summary}
use Rattle.rpg_program.specs.Put.{Bytes}
use Rattle.rpg_machine.specs.Config.{Output}
use Rattle.rpg_machine.specs.Running.{config_on}
use Rattle.rpg_program.specs.Object.{Object}
use Rattle.rpg_verify.specs.Bound.{bound}

-- the bytes of records
abbrev pub texts : List (Vec ℕ) → List (List ℕ)
texts = map (λ (v : Vec ℕ). v.items)

-- the records of both files
abbrev pub records_in : List (Vec ℕ) → List (Vec ℕ) → Records
records_in primary secondary = record { primary = texts primary; secondary = texts secondary }

-- the course of a run that output this and led there
abbrev pub course_of : Summary → Output → UnderWay → Course
course_of s out there = record { ending = job_end s.ending; cycles = s.cycles; most = s.most; output = out; there = there }

-- a job is before its first cycle: nothing was read, nothing is kept of earlier records, and no line was placed
pub record IsAtStart (j : AtWork) : Type 0 where
  pub going : is_going j.stage ≡ true
  pub first : j.left ≡ left_by j.program []
  pub files : j.inputs ≡ unread
  pub top : j.last ≡ None

-- a job before its first cycle ran over records to its end, in at most one cycle more than there are, each within its program's bound
pub record RunsRecords (old : AtWork) (records : Records) (s : Summary) (new : AtWork) : Type 0 where
  pub out : Output
  pub there : UnderWay
  pub runs : Runs old.program [] records (config_on None old.config) unread (course_of s out there)
  pub print : new.output.print ≡ old.output.print ++ printed out
  pub disk : new.output.disk ≡ old.output.disk ++ stored out
  pub few : s.cycles ≤ records_count records + 1
  pub low : s.most ≤ bound old.program

-- how a run went, apart from its bytes
abbrev pub summary_of : Run → Summary
summary_of r = record { ending = r.ending; cycles = r.cycles; most = r.most }

-- the bytes that a run has output
abbrev pub run_output : Run → Bytes
run_output r = record { print = r.output.print.items; disk = r.output.disk.items }

-- a job before its first cycle ran over records to its end, and all its output was taken
pub record RunsToEnd (old : AtWork) (records : Records) (r : Run) : Type 0 where
  pub at_end : AtWork
  pub runs : RunsRecords old records (summary_of r) at_end
  pub print : r.output.print.items ≡ at_end.output.print
  pub disk : r.output.disk.items ≡ at_end.output.disk

-- the whole run of a program over records, on the date in a text and with the first values of its fields
pub record RunsWhole (p : Object) (date : List ℕ) (records : Records) (r : Run) : Type 0 where
  pub number : ℤ
  pub spelled : date_in date ≡ Some number
  pub out : Output
  pub there : UnderWay
  pub run : IsRun p number (first_fields p) records (course_of (summary_of r) out there) (run_output r)
