-- The configurations on the way of a run: where each cycle starts, where each of its phases leads, and all within its sections.
use Rattle.std.specs.Prelude.{◌≡◌, ℕ, zero, suc, Bool, false, ◌⊎◌, ℤ, List, [], Option}
use Rattle.std.specs.Ordering.{nat_cmp}
use Rattle.rpg_cycle_records.specs.Earlier.{Left, Selected, left_by, with_record}
use Rattle.rpg_cycle_records.specs.Waiting.{Inputs, has_match, unread}
use Rattle.rpg_cycle.specs.Ends.{PhaseEnd, Continues}
use Rattle.rpg_cycle.specs.Phases.{Phase, UnderWay, begun, detail_lines, end_where_last, fill_fields, halt_if_indicated, is_bypassed, needs_record, output, overflow_lines, section, select_record, set_off, show_match, total_time}
use Rattle.rpg_cycle.specs.Runs.{Records, left_following, next_of}
use Rattle.rpg_cycle.specs.Starting.{job_start}
use Rattle.rpg_program.specs.World.{Fields}
use Rattle.rpg_program.specs.declared.input.InputFile.TheVariants.{Primary, Secondary}
use Rattle.rpg_cycle_safety.specs.Coming.{next_cycle}
use Rattle.rpg_machine.specs.Config.{Config, Output}
use Rattle.rpg_machine.specs.Run.{at_first, run}
use Rattle.rpg_machine.specs.Step.{Outcome, Next, Stop}
use Rattle.rpg_machine.specs.declared.time.OutputTime.TheVariants as times
use Rattle.rpg_program.specs.Object.{Object}
use Rattle.rpg_program.specs.declared.section.Section.{Section}
use Rattle.rpg_program.specs.declared.section.Section.TheVariants as sections

-- the configurations on a way from its start
abbrev pub Way : Type 1
Way = UnderWay → Config → Type 0

-- where a phase leads, however it ends
abbrev pub ways_to_end : Phase → Way
ways_to_end P c x = (e : PhaseEnd) × (d : UnderWay) × (out : Output) × P c e d out × (x ≡ d.config)

-- the configuration of an outcome
abbrev pub config_left : Outcome → Config
config_left (Next c o) = c
config_left (Stop e c o) = c

-- where a section is after any number of steps
abbrev pub within : Object → Section → Way
within p s c x = (n : ℕ) × (x ≡ config_left (run p n (at_first p s c.config)))

-- those of a phase and, if it continues, those of what follows
abbrev pub along : Phase → Way → Way → Way
along P V W c x = V c x ⊎ ((m : UnderWay) × (out : Output) × P c Continues m out × W m x)

-- where a phase leads, and what follows
infixr 5 ◌onto◌
-- the ways of a phase, and then those of the phases after it
abbrev pub ◌onto◌ : Phase → Way → Way
P onto W = along P (ways_to_end P) W

-- those of total calculations and total output, unless they are bypassed
abbrev pub total_way : Object → Left → Way
total_way p left c x =
    (is_bypassed p left.any left.control c.config ≡ false)
    × along (section p sections.Total) (within p sections.Total) (ways_to_end (output p times.Total)) c x

-- those of a cycle after its start
abbrev pub phases_way : Object → Left → (Inputs → Selected → Bool) → Option (List ℕ) → Option (List ℕ) → Way
phases_way p left matches primary secondary =
    detail_lines p
    onto halt_if_indicated
    onto set_off p
    onto select_record p left primary secondary
    onto along (total_time p left) (total_way p left)
    (end_where_last onto overflow_lines p onto show_match matches onto fill_fields p onto within p sections.Detail)

-- those of a cycle after those that selected the earlier records, with the next records
abbrev pub cycle_way : Object → List Selected → Option (List ℕ) → Option (List ℕ) → Way
cycle_way p earlier primary secondary c x = (x ≡ c.config) ⊎ phases_way p (left_by p earlier) (has_match p earlier) primary secondary c x

-- those of a run's next cycle, over records
abbrev pub next_way : Object → List Selected → Records → Config → Inputs → Way
next_way p earlier rs c i = cycle_way p earlier (next_of (needs_record p c i Primary) rs.primary) (next_of (needs_record p c i Secondary) rs.secondary)

-- those of a given number of cycles of a run from a configuration and files, after earlier records (the last first), over the remaining
-- records
abbrev pub Visits : ℕ → Object → List Selected → Records → Config → Inputs → Config → Type 0
Visits zero p earlier rs c i x = ⊥
Visits (suc n) p earlier rs c i x =
    along (next_cycle p earlier rs c i) (next_way p earlier rs c i)
    (λ d y. Visits n p (with_record d.selected earlier) (left_following p c i rs) d.config d.inputs y) (begun p c i) x

-- those of the whole run of a program over records, on a date, with the first values of its fields
abbrev pub IsOfRun : Object → ℤ → Fields nat_cmp → Records → Config → Type 0
IsOfRun p date fields records x = (n : ℕ) × Visits n p [] records (job_start p date fields) unread x
