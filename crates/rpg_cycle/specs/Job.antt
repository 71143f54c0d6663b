-- A job as its callers see it. Of the lines before it remembers only the last one placed, as the machine does.
use Rattle.rpg_paper.specs.Form.{line_of}
use Rattle.std.specs.Prelude.{◌≡◌, ℕ, ℤ, ◌++◌, ◌≤◌, Bool, true, false, ◌&&◌, List, [], Option, None, Some, Result, IfOk, IsOk, OnErr}
use Rattle.std.specs.Ordering.{nat_cmp}
use Rattle.rpg_paper.specs.Paper.{Position, last_position_from}
use Rattle.rpg_program.specs.Fronts.{OnlyGrows}
use Rattle.rpg_program.specs.Put.{Bytes, with_output}
use Rattle.rpg_program.specs.World.{Fields}
use Rattle.rpg_cycle_records.specs.Earlier.{Left, Selected, left_by, with_record}
use Rattle.rpg_cycle_records.specs.Holding.{AreFilesKept, inputs_of}
use Rattle.rpg_cycle_records.specs.Keeping.{left_of}
use Rattle.rpg_cycle_records.specs.declared.kept.Kept.{Kept}
use Rattle.rpg_cycle_records.specs.Merging.{AreMergedInOrder}
use Rattle.rpg_cycle_records.specs.Waiting.{Inputs, unread}
use Rattle.rpg_program.specs.declared.input.InputFile.{InputFile}
use Rattle.rpg_cycle.specs.Ends.{Continues, PhaseEnd}
use Rattle.rpg_machine.specs.Running as machines
use Rattle.rpg_machine.specs.Ready.{IsReady}
use Rattle.rpg_cycle.specs.Phases as cycles
use Rattle.rpg_cycle.specs.Phases.{Cycle, UnderWay, begun}
use Rattle.rpg_cycle.specs.Stages.{Stage, Going, Ended, Failed, has_failed, is_going, stage_at}
use Rattle.rpg_cycle.specs.Starting.{date_in, dated}
use Rattle.rpg_machine.specs.Config.{Config, Output}
use Rattle.rpg_machine.specs.Running.{Running, config_on, feed_after, no_bytes}
use Rattle.rpg_program.specs.Object.{Object}
use Rattle.rpg_store.specs.First.{first_contents, first_currents}
use Rattle.rpg_verify.specs.Bound.{bound}

-- a job: its program, the machine's configuration, the line placed last, the bytes output since they were taken, what is left of earlier
-- records, its files, and its stage
pub record AtWork : Type 0 where
  pub program : Object
  pub config : Config
  pub last : Option ℕ
  pub output : Bytes
  pub left : Left
  pub inputs : Inputs
  pub stage : Stage

-- ---- the start

-- a job before its first cycle, on a date, with the first values of its fields
abbrev pub job_started : Object → ℤ → Fields nat_cmp → AtWork
job_started p date fields = record {
  program = p;
  config = (machines.started p (dated date 1 p.fields fields)).config;
  last = None;
  output = no_bytes;
  left = left_by p [];
  inputs = unread;
  stage = Going;
}

-- on the date in a text
pub record Starts (p : Object) (date : List ℕ) (fields : Fields nat_cmp) (j : AtWork) : Type 0 where
  pub number : ℤ
  pub spelled : date_in date ≡ Some number
  pub job : j ≡ job_started p number fields

-- the first values of a program's fields
abbrev pub first_fields : Object → Fields nat_cmp
first_fields p = record { values = first_contents p; current = first_currents p }

-- ---- a cycle

-- earlier records, the last of them first, left this and these files
pub record IsFollowing (p : Object) (left : Left) (inputs : Inputs) : Type 0 where
  pub earlier : List Selected
  pub leave : left ≡ left_by p earlier
  pub orderly : AreMergedInOrder p earlier inputs

-- if the job ends, so does the last line
abbrev pub feed_at : Stage → Option ℕ → List ℕ
feed_at Going last = []
feed_at (Ended e) last = feed_after last
feed_at Failed last = []

-- the bytes with what ends the printed pages, if anything does
abbrev pub with_feed : List ℕ → Bytes → Bytes
with_feed feed bytes = record bytes { print = bytes.print ++ feed }

-- After these earlier records and an earlier placed line, a job did a cycle with the next record of each file, or none at its end. Its
-- bytes were appended.
pub record DoesCycle (old : AtWork) (earlier : List Selected) (previous : Option Position) (primary secondary : Option (List ℕ)) (e : PhaseEnd) (new : AtWork) : Type 0 where
  pub stage : new.stage ≡ stage_at e
  pub program : new.program ≡ old.program
  pub there : UnderWay
  pub out : Output
  pub cycle : Cycle old.program earlier primary secondary (begun old.program (config_on previous old.config) old.inputs) e there out
  pub config : there.config ≡ config_on (last_position_from previous out.lines) new.config
  pub left : e ≡ Continues → new.left ≡ left_by old.program (with_record there.selected earlier)
  pub inputs : e ≡ Continues → new.inputs ≡ there.inputs
  pub last : new.last ≡ line_of (last_position_from previous out.lines)
  pub bytes : new.output ≡ with_feed (feed_at (stage_at e) new.last) (with_output previous out.lines out.records old.output)

-- A cycle after earlier records that left what the job keeps, whatever was placed before. There are such records, and it is the same cycle
-- after each list of them in order.
pub record Cycles (old : AtWork) (primary secondary : Option (List ℕ)) (new : AtWork) : Type 0 where
  pub following : IsFollowing old.program old.left old.inputs
  pub does : (earlier : List Selected) → old.left ≡ left_by old.program earlier → AreMergedInOrder old.program earlier old.inputs
      → (previous : Option Position) → old.last ≡ line_of previous → (e : PhaseEnd) × DoesCycle old earlier previous primary secondary e new

-- the next cycle reads a record from a file: the job continues, and the file needs one
abbrev pub job_needs_record : AtWork → InputFile → Bool
job_needs_record j f = is_going j.stage && cycles.needs_record j.program j.config j.inputs f

-- its last cycle took no more steps than the program's bound
abbrev pub KeepsBound : AtWork → Type 0
KeepsBound j = has_failed j.stage ≡ false → j.config.steps ≤ bound j.program

-- What a job answers to a call for its next cycle, with the record that is next in each file; the result determines a stage.
pub record AnswersCycle {A E : Type 0} (stage_by : A → Stage) (old : AtWork) (primary secondary : Option (List ℕ)) (r : Result A E) (new : AtWork) : Type 0 where
  -- a job that continues did the cycle, unless memory ran out
  pub going : is_going old.stage ≡ true → IfOk r (λ _. Cycles old primary secondary new)
  pub stage_after : IfOk r (λ x. stage_by x ≡ new.stage)
  -- one that has ended stays as it is
  pub over : is_going old.stage ≡ false → IsOk r × (new ≡ old)
  pub failed : OnErr r (new.stage ≡ Failed)
  pub bound : KeepsBound new
  -- the output of earlier cycles is kept, even if memory ran out
  pub grows : OnlyGrows old.output new.output

-- the output was taken
abbrev pub job_taken : AtWork → AtWork
job_taken j = record j { output = no_bytes }

-- ---- what a job keeps

-- while it continues its machine runs its program and is ready, what is kept is that of earlier records, and the files' waiting records are
-- well kept; the steps are in their bound
pub record IsAtWork (p : Object) (machine : Running) (stage : Stage) (kept : Kept) : Type 0 where
  pub program : is_going stage ≡ true → machine.program ≡ p
  pub ready : is_going stage ≡ true → IsReady machine
  pub following : is_going stage ≡ true → IsFollowing p (left_of kept) (inputs_of kept)
  pub files : is_going stage ≡ true → AreFilesKept p kept
  pub few : has_failed stage ≡ false → machine.config.steps ≤ bound p
