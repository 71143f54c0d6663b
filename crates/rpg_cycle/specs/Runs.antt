-- Whole runs: cycles, each with the next records of the files that read one, until one ends the job.
use Rattle.std.specs.Prelude.{◌≡◌, ℕ, zero, suc, ◌+◌, ◌++◌, ℤ, Bool, List, [], ◌∷◌, max, Option, None, Some, if◌then◌else◌}
use Rattle.std.specs.Ordering.{nat_cmp}
use Rattle.rpg_cycle_records.specs.Earlier.{Selected, with_record}
use Rattle.rpg_cycle_records.specs.Waiting.{Inputs, unread}
use Rattle.rpg_cycle.specs.Ends.{PhaseEnd, Continues, EndOfJob, Halt, Wrong}
use Rattle.rpg_cycle.specs.Phases.{Cycle, UnderWay, begun, needs_record}
use Rattle.rpg_cycle.specs.Starting.{job_start}
use Rattle.rpg_paper.specs.Paper.{Placed, paper}
use Rattle.rpg_program.specs.Put.{Bytes, disk_bytes}
use Rattle.rpg_program.specs.World.{Fields}
use Rattle.rpg_program.specs.declared.input.InputFile.TheVariants.{Primary, Secondary}
use Rattle.rpg_machine.specs.Config.{Config, Output, with_more}
use Rattle.rpg_program.specs.Object.{Object}

-- how a run ended, in how many cycles, the most steps that one of them took, its output, and what the last cycle led to
pub record Course : Type 0 where
  pub ending : PhaseEnd
  pub cycles : ℕ
  pub most : ℕ
  pub output : Output
  pub there : UnderWay

-- the course of a run with this last cycle
abbrev pub last_cycle : PhaseEnd → UnderWay → Output → Course
last_cycle e d out = record { ending = e; cycles = 1; most = d.config.steps; output = out; there = d }

-- the course of the rest with this cycle before it
abbrev pub with_cycle : Config → Output → Course → Course
with_cycle c out rest = record {
  ending = rest.ending;
  cycles = 1 + rest.cycles;
  most = max c.steps rest.most;
  output = with_more out rest.output;
  there = rest.there;
}

-- a cycle ended the job, or the rest follows
abbrev pub ends_or : PhaseEnd → UnderWay → Output → (UnderWay → Course → Type 0) → Course → Type 0
ends_or Continues d out Rest course = (rest : Course) × Rest d rest × (course ≡ with_cycle d.config out rest)
ends_or EndOfJob d out Rest course = course ≡ last_cycle EndOfJob d out
ends_or (Halt k) d out Rest course = course ≡ last_cycle (Halt k) d out
ends_or (Wrong f) d out Rest course = course ≡ last_cycle (Wrong f) d out

-- the records of both files
pub record Records : Type 0 where
  pub primary : List (List ℕ)
  pub secondary : List (List ℕ)

-- the first of a list
abbrev pub first_if_any : {A : Type 0} → List A → Option A
first_if_any [] = None
first_if_any (x ∷ xs) = Some x

-- the list without its first
abbrev pub following_first : {A : Type 0} → List A → List A
following_first [] = []
following_first (x ∷ xs) = xs

-- what a cycle reads from a file, and what it leaves
abbrev pub next_of : {A : Type 0} → Bool → List A → Option A
next_of is_needed rs = if is_needed then first_if_any rs else None

-- the records that are left, if one is needed
abbrev pub rest_where_needed : {A : Type 0} → Bool → List A → List A
rest_where_needed is_needed rs = if is_needed then following_first rs else rs

-- the records that are left after a cycle
abbrev pub left_following : Object → Config → Inputs → Records → Records
left_following p c i rs = record { primary = rest_where_needed (needs_record p c i Primary) rs.primary; secondary = rest_where_needed (needs_record p c i Secondary) rs.secondary }

-- a run of at most a given number of cycles from a configuration and files, after earlier records (the last first), over the remaining
-- records
abbrev pub RunsIn : ℕ → Object → List Selected → Records → Config → Inputs → Course → Type 0
RunsIn zero p earlier rs c i course = ⊥
RunsIn (suc n) p earlier rs c i course =
    (e : PhaseEnd) × (d : UnderWay) × (out : Output)
    × Cycle p earlier (next_of (needs_record p c i Primary) rs.primary) (next_of (needs_record p c i Secondary) rs.secondary) (begun p c i) e d out
    × ends_or e d out (λ d rest. RunsIn n p (with_record d.selected earlier) (left_following p c i rs) d.config d.inputs rest) course

-- a run, in as many cycles as it takes
abbrev pub Runs : Object → List Selected → Records → Config → Inputs → Course → Type 0
Runs p earlier rs c i course = RunsIn course.cycles p earlier rs c i course

-- a line feed after the last line, if one was placed
abbrev pub last_feed : List Placed → List ℕ
last_feed [] = []
last_feed (x ∷ xs) = 10 ∷ []

-- the printer's bytes of a whole run
abbrev pub printed : Output → List ℕ
printed out = paper out.lines ++ last_feed out.lines

-- the disk's bytes of a whole run
abbrev pub stored : Output → List ℕ
stored out = disk_bytes out.records

-- the whole run of a program over records, with a date and the first values of its fields
pub record IsRun (p : Object) (date : ℤ) (fields : Fields nat_cmp) (records : Records) (course : Course) (bytes : Bytes) : Type 0 where
  pub runs : Runs p [] records (job_start p date fields) unread course
  pub print : bytes.print ≡ printed course.output
  pub disk : bytes.disk ≡ stored course.output
