-- What the laws of cycles and of whole runs state.
use Rattle.std.specs.Prelude.{◌≡◌, ℕ, ◌+◌, ◌*◌, ◌≤◌, ℤ, true, List, Option, Some, length}
use Rattle.std.specs.FinMap as map
use Rattle.std.specs.Ordering.{nat_cmp}
use Rattle.rpg_cycle_records.specs.Earlier.{Selected}
use Rattle.rpg_cycle_records.specs.Waiting.{Inputs}
use Rattle.rpg_cycle.specs.Counting.{records_count}
use Rattle.rpg_cycle.specs.Ends.{PhaseEnd}
use Rattle.rpg_cycle.specs.Job.{AtWork, DoesCycle}
use Rattle.rpg_cycle.specs.Phases.{Cycle, UnderWay, begun}
use Rattle.rpg_cycle.specs.Runs.{Course, IsRun, Records}
use Rattle.rpg_cycle.specs.Starting.{date_in, job_first_world}
use Rattle.rpg_program.specs.Ends.{End}
use Rattle.rpg_program.specs.Put.{Bytes}
use Rattle.rpg_program.specs.World.{Fields}
use Rattle.rpg_cycle_safety.specs.Coming.{CyclesWell, HasCycle, HasRun, RunsWell}
use Rattle.rpg_cycle_safety.specs.Holding.{Holds}
use Rattle.rpg_cycle_safety.specs.Leading.{IsSteady}
use Rattle.rpg_cycle_safety.specs.Measuring.{StandsNear, IsPutInRun, PaysForOutput, StaysInOutput, bytes_of_step, pending}
use Rattle.rpg_cycle_safety.specs.Visiting.{IsOfRun}
use Rattle.rpg_cycle_safety.specs.Waiting.{AreWaiting}
use Rattle.rpg_machine.specs.Config.{Config, Output}
use Rattle.rpg_machine.specs.Run.{RunsTo}
use Rattle.rpg_machine.specs.Running.{config_on, no_bytes}
use Rattle.rpg_program.specs.Kept.{IsProgram}
use Rattle.rpg_program.specs.Object.{Object}
use Rattle.rpg_program.specs.Sections.{has_end}
use Rattle.rpg_program.specs.declared.section.Section.{Section}
use Rattle.rpg_paper.specs.Paper.{Position}
use Rattle.rpg_verify_rules.specs.Accepted.{IsAccepted}
use Rattle.rpg_verify.specs.Bound.{bound}

-- ---- cycles

-- there is a cycle, whatever was read before and is next, from any configuration with valid values, in which no subroutine runs, and whose
-- waiting records are well kept
abbrev pub CyclesAreThere : Type 0
CyclesAreThere =
    (p : Object) (earlier : List Selected) (primary secondary : Option (List ℕ)) (c : Config) (i : Inputs)
    → IsProgram p → IsAccepted p → Holds p c.world.data → c.cells ≡ map.empty → AreWaiting p i → HasCycle p earlier primary secondary c i

-- each cycle from there ends well: never wrong, with valid values, within the bound
abbrev pub CyclesEndWell : Type 0
CyclesEndWell =
    (p : Object) (earlier : List Selected) (primary secondary : Option (List ℕ)) (c : Config) (i : Inputs) (e : PhaseEnd) (d : UnderWay) (out : Output)
    → IsProgram p → IsAccepted p → Holds p c.world.data → c.cells ≡ map.empty → AreWaiting p i
    → Cycle p earlier primary secondary (begun p c i) e d out → CyclesWell p e d

-- two cycles from one configuration and its files, after the same records and with the same next ones, are the same
abbrev pub CyclesAreOne : Type 0
CyclesAreOne =
    (p : Object) (earlier : List Selected) (primary secondary : Option (List ℕ)) (c : UnderWay) (e f : PhaseEnd) (x y : UnderWay) (a b : Output)
    → Cycle p earlier primary secondary c e x a → Cycle p earlier primary secondary c f y b → (e ≡ f) × (x ≡ y) × (a ≡ b)

-- ---- runs

-- there is a run over any records of both files, on any date, from valid values
abbrev pub RunsAreThere : Type 0
RunsAreThere =
    (p : Object) (text : List ℕ) (date : ℤ) (fields : Fields nat_cmp) (records : Records)
    → IsProgram p → IsAccepted p → date_in text ≡ Some date → Holds p (job_first_world fields).data → HasRun p date fields records

-- each run from there ends at the end of the job or at a halt, within one cycle more than there are records and within the bound
abbrev pub RunsEndWell : Type 0
RunsEndWell =
    (p : Object) (text : List ℕ) (date : ℤ) (fields : Fields nat_cmp) (records : Records) (course : Course) (bytes : Bytes)
    → IsProgram p → IsAccepted p → date_in text ≡ Some date → Holds p (job_first_world fields).data
    → IsRun p date fields records course bytes → RunsWell p (records_count records) course

-- and each configuration on its way is steady
abbrev pub RunsAreSteady : Type 0
RunsAreSteady =
    (p : Object) (text : List ℕ) (date : ℤ) (fields : Fields nat_cmp) (records : Records) (c : Config)
    → IsProgram p → IsAccepted p → date_in text ≡ Some date → Holds p (job_first_world fields).data
    → IsOfRun p date fields records c → IsSteady p c

-- ---- output

-- all output of calculations takes the steps that pay for it
abbrev pub SectionsPayForOutput : Type 0
SectionsPayForOutput =
    (p : Object) (section : Section) (previous : Option Position) (c : Config) (e : End) (d : Config) (out : Output)
    → IsProgram p → IsAccepted p → has_end section ≡ true → c.cells ≡ map.empty → Holds p c.world.data → StandsNear previous c.world.paper.here
    → RunsTo p section c e d out → PaysForOutput previous c d out

-- so does the output of a cycle, which is no more than the steps of the bound may output
abbrev pub CyclesPayForOutput : Type 0
CyclesPayForOutput =
    (p : Object) (earlier : List Selected) (primary secondary : Option (List ℕ)) (previous : Option Position) (c : Config) (i : Inputs) (e : PhaseEnd) (d : UnderWay) (out : Output)
    → IsProgram p → IsAccepted p → Holds p c.world.data → c.cells ≡ map.empty → AreWaiting p i → StandsNear previous c.world.paper.here
    → Cycle p earlier primary secondary (begun p c i) e d out
    → PaysForOutput previous (begun p c i).config d.config out × StaysInOutput p previous out

-- nor is it more in any cycle of a run
abbrev pub RunsStayInOutput : Type 0
RunsStayInOutput =
    (p : Object) (text : List ℕ) (date : ℤ) (fields : Fields nat_cmp) (records : Records) (last : Option Position) (out : Output)
    → IsProgram p → IsAccepted p → date_in text ≡ Some date → Holds p (job_first_world fields).data
    → IsPutInRun p date fields records last out → StaysInOutput p last out

-- a job whose output was taken before a cycle holds no more after it, except the line feed that ends the job's last line
abbrev pub JobsStayInOutput : Type 0
JobsStayInOutput =
    (old new : AtWork) (earlier : List Selected) (previous : Option Position) (primary secondary : Option (List ℕ)) (e : PhaseEnd)
    → IsProgram old.program → IsAccepted old.program → Holds old.program old.config.world.data → old.config.cells ≡ map.empty
    → AreWaiting old.program old.inputs → StandsNear previous (config_on previous old.config).world.paper.here → old.output ≡ no_bytes
    → DoesCycle old earlier previous primary secondary e new → pending new ≤ bound old.program * bytes_of_step + 1

-- a run outputs at most this much for each of its cycles, plus that line feed
abbrev pub RunsOutputFew : Type 0
RunsOutputFew =
    (p : Object) (text : List ℕ) (date : ℤ) (fields : Fields nat_cmp) (records : Records) (course : Course) (bytes : Bytes)
    → IsProgram p → IsAccepted p → date_in text ≡ Some date → Holds p (job_first_world fields).data
    → IsRun p date fields records course bytes → length bytes.print + length bytes.disk ≤ course.cycles * (bound p * bytes_of_step) + 1
