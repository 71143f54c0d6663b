-- Whole runs by cards: cycles, each with the next records of the files that read one, until one ends the job.
use Rattle.std.specs.Prelude.{◌≡◌, ℕ, ◌+◌, Bool, not, ◌&&◌, ◌||◌, List, [], Option, None}
use Rattle.rpg_cards.specs.Keys.{key_cmp}
use Rattle.rpg_cycle.specs.Ends.{PhaseEnd, Continues, EndOfJob, Halt}
use Rattle.rpg_cycle.specs.Indicators.{halt_indicators, last_record}
use Rattle.rpg_cycle.specs.Runs.{Records, next_of, printed, rest_where_needed, stored}
use Rattle.rpg_program.specs.Put.{Bytes}
use Rattle.rpg_program.specs.World.{World}
use Rattle.rpg_program.specs.declared.input.InputFile.{InputFile}
use Rattle.rpg_program.specs.declared.input.InputFile.TheVariants.{Primary, Secondary}
use Rattle.rpg_meaning.specs.Jobs.Cycle.{MeantCycle, meant_takes_in}
use Rattle.rpg_meaning.specs.Jobs.Job.{Job, JobState}
use Rattle.rpg_meaning.specs.Jobs.Phases.{any_on_in, is_on_in}
use Rattle.rpg_machine.specs.Config.{Output, with_more}
use Rattle.rpg_cycle_records.specs.Earlier.{Selected, with_record}
use Rattle.rpg_cycle_records.specs.Waiting.{Inputs, unread}

-- how a run ended, in how many cycles, and what was output
pub record MeantCourse : Type 0 where
  pub ending : PhaseEnd
  pub cycles : ℕ
  pub output : Output

-- the whole allowance, and nothing selected
abbrev pub meant_begun : Job → World key_cmp → Inputs → JobState
meant_begun job w i = record { world = w; allowance = job.allowance; inputs = i; selected = None }

-- a file reads a record at the next cycle, which none does if LR or one of H1 to H9 is on
abbrev pub meant_needs : Job → JobState → InputFile → Bool
meant_needs job s f = not (is_on_in last_record s || any_on_in halt_indicators s) && meant_takes_in job s.inputs f

-- what it reads of a file's records, and the remaining records
abbrev pub meant_next : Job → JobState → InputFile → List (List ℕ) → Option (List ℕ)
meant_next job s f rs = next_of (meant_needs job s f) rs

-- the remaining records, after the next cycle has read what it needs
abbrev pub meant_left : Job → JobState → Records → Records
meant_left job s rs = record { primary = rest_where_needed (meant_needs job s Primary) rs.primary; secondary = rest_where_needed (meant_needs job s Secondary) rs.secondary }

-- the next cycle from a state before it, with the next record of each file that reads one
abbrev pub NextCycle : Job → List Selected → Records → World key_cmp → Inputs → PhaseEnd → JobState → Output → Type 0
NextCycle job earlier rs w i =
    MeantCycle job earlier (meant_next job (meant_begun job w i) Primary rs.primary) (meant_next job (meant_begun job w i) Secondary rs.secondary) (meant_begun job w i)

-- the course of a run whose last cycle ends this way
abbrev pub meant_last_cycle : PhaseEnd → Output → MeantCourse
meant_last_cycle e out = record { ending = e; cycles = 1; output = out }

-- the course of the rest with a cycle before it
abbrev pub with_meant_cycle : Output → MeantCourse → MeantCourse
with_meant_cycle out rest = record { ending = rest.ending; cycles = 1 + rest.cycles; output = with_more out rest.output }

-- a run after earlier records (the last first), over the remaining records: one cycle after another
pub data MeantRuns (job : Job) : List Selected → Records → World key_cmp → Inputs → MeantCourse → Type 0 where
  -- a cycle comes to the end of the job
  AtEndOfJob : (earlier : List Selected) (rs : Records) (w : World key_cmp) (i : Inputs) (t : JobState) (out : Output)
      → NextCycle job earlier rs w i EndOfJob t out → MeantRuns job earlier rs w i (meant_last_cycle EndOfJob out)
  -- a cycle halts
  AtHalt : (earlier : List Selected) (rs : Records) (w : World key_cmp) (i : Inputs) (k : ℕ) (t : JobState) (out : Output)
      → NextCycle job earlier rs w i (Halt k) t out → MeantRuns job earlier rs w i (meant_last_cycle (Halt k) out)
  -- a cycle continues, and the rest follows
  Then : (earlier : List Selected) (rs : Records) (w : World key_cmp) (i : Inputs) (t : JobState) (out : Output) (rest : MeantCourse)
      → NextCycle job earlier rs w i Continues t out → MeantRuns job (with_record t.selected earlier) (meant_left job (meant_begun job w i) rs) t.world t.inputs rest
      → MeantRuns job earlier rs w i (with_meant_cycle out rest)

-- the whole run over records from a world, with the bytes that are printed and stored
pub record IsMeantRun (job : Job) (w : World key_cmp) (records : Records) (course : MeantCourse) (bytes : Bytes) : Type 0 where
  pub runs : MeantRuns job [] records w unread course
  pub print : bytes.print ≡ printed course.output
  pub disk : bytes.disk ≡ stored course.output
