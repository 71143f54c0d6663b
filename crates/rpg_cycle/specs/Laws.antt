-- What the laws of cycles and of runs state.
use Rattle.std.specs.Prelude.{◌≡◌, ℕ, ℤ, List, Option, false}
use Rattle.std.specs.Ordering.{nat_cmp}
use Rattle.rpg_cycle.specs.Ends.{Continues, PhaseEnd}
use Rattle.rpg_cycle.specs.Phases.{Cycle, CycleOn, Phase, UnderWay, begun, needs_record}
use Rattle.rpg_cycle.specs.Runs.{Course, IsRun, Records, Runs, RunsIn}
use Rattle.rpg_cycle_records.specs.Earlier.{Selected, left_by, with_record}
use Rattle.rpg_cycle_records.specs.Merging.{AreMergedInOrder}
use Rattle.rpg_cycle_records.specs.Waiting.{Inputs, finds_match}
use Rattle.rpg_program.specs.Put.{Bytes}
use Rattle.rpg_program.specs.World.{Fields}
use Rattle.rpg_program.specs.declared.input.InputFile.TheVariants.{Primary, Secondary}
use Rattle.rpg_machine.specs.Config.{Config, Output}
use Rattle.rpg_program.specs.Object.{Object}

-- ---- cycles

-- a cycle that continues keeps records in their order
abbrev pub CyclesKeepOrder : Type 0
CyclesKeepOrder =
    (p : Object) (earlier : List Selected) (a b : Option (List ℕ)) (c : Config) (i : Inputs) (d : UnderWay) (out : Output)
    → AreMergedInOrder p earlier i → Cycle p earlier a b (begun p c i) Continues d out → AreMergedInOrder p (with_record d.selected earlier) d.inputs

-- a cycle that looks for a match in what earlier records left, not among all of them
abbrev pub CycleByLeft : Object → List Selected → Option (List ℕ) → Option (List ℕ) → Phase
CycleByLeft p earlier a b = CycleOn p (left_by p earlier) (finds_match p (left_by p earlier)) a b

-- if records are in order, each cycle is one that looks for matches this way
abbrev pub CyclesGoByLeft : Type 0
CyclesGoByLeft =
    (p : Object) (earlier : List Selected) (a b : Option (List ℕ)) (c : Config) (i : Inputs) (e : PhaseEnd) (d : UnderWay) (out : Output)
    → AreMergedInOrder p earlier i → Cycle p earlier a b (begun p c i) e d out → CycleByLeft p earlier a b (begun p c i) e d out

-- and each such cycle is a cycle
abbrev pub LeftGivesCycles : Type 0
LeftGivesCycles =
    (p : Object) (earlier : List Selected) (a b : Option (List ℕ)) (c : Config) (i : Inputs) (e : PhaseEnd) (d : UnderWay) (out : Output)
    → AreMergedInOrder p earlier i → CycleByLeft p earlier a b (begun p c i) e d out → Cycle p earlier a b (begun p c i) e d out

-- if the primary file reads no record, a cycle is the same whatever record of it is next, or none
abbrev pub IgnoresPrimary : Object → Type 0
IgnoresPrimary p =
    (earlier : List Selected) (c : Config) (i : Inputs) (now next b : Option (List ℕ)) (e : PhaseEnd) (d : UnderWay) (out : Output)
    → needs_record p c i Primary ≡ false → Cycle p earlier now b (begun p c i) e d out → Cycle p earlier next b (begun p c i) e d out

-- likewise for the secondary file
abbrev pub IgnoresSecondary : Object → Type 0
IgnoresSecondary p =
    (earlier : List Selected) (c : Config) (i : Inputs) (a now next : Option (List ℕ)) (e : PhaseEnd) (d : UnderWay) (out : Output)
    → needs_record p c i Secondary ≡ false → Cycle p earlier a now (begun p c i) e d out → Cycle p earlier a next (begun p c i) e d out

-- ---- runs

-- two runs over the same records take the same course
abbrev pub RecordsGiveOneCourse : Type 0
RecordsGiveOneCourse =
    (p : Object) (date : ℤ) (fields : Fields nat_cmp) (records : Records) (u v : Course) (a b : Bytes)
    → IsRun p date fields records u a → IsRun p date fields records v b → u ≡ v

-- and output the same bytes
abbrev pub RecordsGiveOneOutput : Type 0
RecordsGiveOneOutput =
    (p : Object) (date : ℤ) (fields : Fields nat_cmp) (records : Records) (u v : Course) (a b : Bytes)
    → IsRun p date fields records u a → IsRun p date fields records v b → a ≡ b

-- a run of at most a given number of cycles is a run
abbrev pub RunsGoByTheirCount : Type 0
RunsGoByTheirCount =
    (n : ℕ) (p : Object) (earlier : List Selected) (rs : Records) (c : Config) (i : Inputs) (course : Course)
    → RunsIn n p earlier rs c i course → Runs p earlier rs c i course
