-- How many bytes a cycle of a run outputs, for the printer and the disk together.
use Rattle.std.specs.Prelude.{◌≡◌, ℕ, ◌+◌, ◌*◌, ◌≤◌, ◌⊎◌, ℤ, zero, suc, List, [], Option, None, length}
use Rattle.std.specs.Ordering.{nat_cmp}
use Rattle.rpg_cycle_records.specs.Earlier.{Selected, with_record}
use Rattle.rpg_cycle_records.specs.Waiting.{Inputs, unread}
use Rattle.rpg_cycle.specs.Ends.{PhaseEnd, Continues}
use Rattle.rpg_cycle.specs.Job.{AtWork}
use Rattle.rpg_cycle.specs.Phases.{UnderWay, begun}
use Rattle.rpg_cycle.specs.Runs.{Records, left_following}
use Rattle.rpg_cycle.specs.Starting.{job_start}
use Rattle.rpg_program.specs.Put.{disk_bytes}
use Rattle.rpg_program.specs.World.{Fields}
use Rattle.rpg_cycle_safety.specs.Coming.{next_cycle}
use Rattle.rpg_machine.specs.Config.{Config, Output}
use Rattle.rpg_program.specs.Object.{Object}
use Rattle.rpg_paper.specs.Form.{page_or_1}
use Rattle.rpg_paper.specs.Paper.{Position, bytes_from, last_position_from}
use Rattle.rpg_verify.specs.Bound.{bound}

-- the bytes of an output after the line placed last: those of the printer and those of the disk
abbrev pub output_size : Option Position → Output → ℕ
output_size previous out = length (bytes_from previous out.lines) + length (disk_bytes out.records)

-- what one step may output: a record of the disk has up to 9,999 characters, and a line feed
abbrev pub bytes_of_step : ℕ
bytes_of_step = 10000

-- the form is on a line that a page can have, on the page of the line placed last or on one of the two after it
pub record StandsNear (previous : Option Position) (here : Position) : Type 0 where
  pub line : here.line ≤ 112
  pub page : here.page ≤ page_or_1 previous + 2

-- between one configuration and another no more was output than the steps between them may output, and the form is near the line placed
-- last
pub record PaysForOutput (previous : Option Position) (c d : Config) (out : Output) : Type 0 where
  pub few : output_size previous out + c.steps * bytes_of_step ≤ d.steps * bytes_of_step
  pub near : StandsNear (last_position_from previous out.lines) d.world.paper.here

-- no more was output than the steps of the bound may output
pub record StaysInOutput (p : Object) (previous : Option Position) (out : Output) : Type 0 where
  pub few : output_size previous out ≤ bound p * bytes_of_step

-- the bytes that a job holds until they are taken
abbrev pub pending : AtWork → ℕ
pending j = length j.output.print + length j.output.disk

-- ---- the cycles of a run

-- a run's next cycle output this, after the line placed last
abbrev pub IsOfCycle : Object → List Selected → Records → Option Position → Config → Inputs → Option Position → Output → Type 0
IsOfCycle p earlier rs previous c i last out = (last ≡ previous) × (e : PhaseEnd) × (d : UnderWay) × next_cycle p earlier rs c i (begun p c i) e d out

-- this cycle, or one of the n - 1 that follow it, over the remaining records
abbrev pub IsOfCycles : ℕ → Object → List Selected → Records → Option Position → Config → Inputs → Option Position → Output → Type 0
IsOfCycles zero p earlier rs previous c i last out = ⊥
IsOfCycles (suc n) p earlier rs previous c i last out =
    IsOfCycle p earlier rs previous c i last out
    ⊎ ((d : UnderWay) × (first : Output) × next_cycle p earlier rs c i (begun p c i) Continues d first
    × IsOfCycles n p (with_record d.selected earlier) (left_following p c i rs) (last_position_from previous first.lines) d.config d.inputs last out)

-- the output of a cycle in the whole run of a program over records, and the line placed last before it
abbrev pub IsPutInRun : Object → ℤ → Fields nat_cmp → Records → Option Position → Output → Type 0
IsPutInRun p date fields records last out = (n : ℕ) × IsOfCycles n p [] records None (job_start p date fields) unread last out
