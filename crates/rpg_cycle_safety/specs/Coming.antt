-- What a cycle and a run of an accepted program lead to.
use Rattle.std.specs.Prelude.{◌≡◌, ℕ, ◌+◌, ◌≤◌, ℤ, List, Option}
use Rattle.std.specs.FinMap as map
use Rattle.std.specs.Ordering.{nat_cmp}
use Rattle.rpg_cycle_records.specs.Earlier.{Selected}
use Rattle.rpg_cycle_records.specs.Waiting.{Inputs}
use Rattle.rpg_cycle.specs.Counting.{records_count}
use Rattle.rpg_cycle.specs.Ends.{PhaseEnd, Continues, EndOfJob, Halt, Wrong}
use Rattle.rpg_cycle.specs.Phases.{Cycle, Phase, UnderWay, begun, needs_record}
use Rattle.rpg_cycle.specs.Runs.{Course, IsRun, Records, next_of}
use Rattle.rpg_program.specs.Put.{Bytes}
use Rattle.rpg_program.specs.World.{Fields}
use Rattle.rpg_program.specs.declared.input.InputFile.TheVariants.{Primary, Secondary}
use Rattle.rpg_cycle_safety.specs.Holding.{Holds}
use Rattle.rpg_cycle_safety.specs.Waiting.{AreWaiting}
use Rattle.rpg_machine.specs.Config.{Config, Output}
use Rattle.rpg_program.specs.Object.{Object}
use Rattle.rpg_verify.specs.Bound.{bound}

-- how a cycle may end: nothing is wrong; it continues, reaches the end of the job, or halts with a number from 1 to 8
abbrev pub IsCycleEnd : PhaseEnd → Type 0
IsCycleEnd Continues = Unit {0}
IsCycleEnd EndOfJob = Unit {0}
IsCycleEnd (Halt k) = (1 ≤ k) × (k ≤ 8)
IsCycleEnd (Wrong f) = ⊥

-- how a run may end: it doesn't continue
abbrev pub IsJobEnd : PhaseEnd → Type 0
IsJobEnd Continues = ⊥
IsJobEnd EndOfJob = Unit {0}
IsJobEnd (Halt k) = IsCycleEnd (Halt k)
IsJobEnd (Wrong f) = ⊥

-- a cycle ends with valid values, with well-kept waiting records, and within the program's bound; if the job continues, no subroutine runs
pub record CyclesWell (p : Object) (e : PhaseEnd) (d : UnderWay) : Type 0 where
  pub ending : IsCycleEnd e
  pub values : Holds p d.config.world.data
  pub no_cell : e ≡ Continues → d.config.cells ≡ map.empty
  pub waiting : AreWaiting p d.inputs
  pub few : d.config.steps ≤ bound p

-- there is a cycle, with this result
pub record HasCycle (p : Object) (earlier : List Selected) (primary secondary : Option (List ℕ)) (c : Config) (i : Inputs) : Type 0 where
  pub ending : PhaseEnd
  pub last : UnderWay
  pub output : Output
  pub cycle : Cycle p earlier primary secondary (begun p c i) ending last output
  pub well : CyclesWell p ending last

-- a run's next cycle, with the next records of the files that read one
abbrev pub next_cycle : Object → List Selected → Records → Config → Inputs → Phase
next_cycle p earlier rs c i = Cycle p earlier (next_of (needs_record p c i Primary) rs.primary) (next_of (needs_record p c i Secondary) rs.secondary)

-- a run over this many records of both files ends at the end of the job or at a halt, within one cycle more, and none took more steps than
-- the bound
pub record RunsWell (p : Object) (records : ℕ) (course : Course) : Type 0 where
  pub ending : IsJobEnd course.ending
  pub cycles : course.cycles ≤ records + 1
  pub few : course.most ≤ bound p

-- there is a run, with this result
pub record HasRun (p : Object) (date : ℤ) (fields : Fields nat_cmp) (records : Records) : Type 0 where
  pub course : Course
  pub bytes : Bytes
  pub run : IsRun p date fields records course bytes
  pub well : RunsWell p (records_count records) course
