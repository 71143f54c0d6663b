-- The result of a phase of a cycle, and of several phases, up to one that ends the job.
use Rattle.std.specs.Prelude.{◌+◌, ◌^◌, ◌≤◌, ℕ, Bool, Option, Result, Ok, IfOk}
use Rattle.rpg_cycle.specs.Doing.{Beside, DoesAlone, DoesHolding, holding_kept, match_by, selected_in}
use Rattle.rpg_cycle.specs.Ends.{Continues}
use Rattle.rpg_cycle.specs.Phases.{Phase, detail_calculations, end_where_last, fill_fields, overflow_lines, show_match, total_time, ◌before◌}
use Rattle.rpg_cycle.specs.Spending.{Spends, detail_time_weight, fields_weight, reach, record_weight}
use Rattle.rpg_cycle.specs.Stages.{IfStops, UnlessNoMemory, job_end}
use Rattle.rpg_cycle.specs.declared.ends.PhaseStop.{PhaseStop}
use Rattle.rpg_cycle_records.specs.Earlier.{Left, Selected}
use Rattle.rpg_cycle_records.specs.Holding.{AreFilesKept, HoldsSelected}
use Rattle.rpg_cycle_records.specs.Keeping.{left_of}
use Rattle.rpg_cycle_records.specs.Waiting.{Inputs}
use Rattle.rpg_cycle_records.specs.declared.kept.Kept.{Kept}
use Rattle.rpg_program.specs.Fronts.{OnlyGrows}
use Rattle.rpg_machine.specs.Ready.{IsReady}
use Rattle.rpg_machine.specs.Running.{Running}
use Rattle.rpg_program.specs.Object.{Object}

-- ---- what a phase requires

-- a machine is ready, and can still count a phase's steps
pub record CanDo (r : Running) : Type 0 where
  pub ready : IsReady r
  pub few : r.config.steps ≤ 2 ^ 60

-- it is ready, and has room for phases of this weight
pub record CanSpend (n : ℕ) (r : Running) : Type 0 where
  pub ready : IsReady r
  pub few : reach r.program r + n ≤ 2 ^ 59

-- what is kept fits the program, and the record of that type, if one was selected, is the one that its file holds
pub record KeepsSelected (p : Object) (k : Kept) (t : Option ℕ) : Type 0 where
  pub kept : AreFilesKept p k
  pub held : HoldsSelected p k t

-- ---- single phases

-- A phase was done that neither reads nor selects: its result, and its greatest cost.
pub record DoesPhase (P : Phase) (n : ℕ) (old : Running) (r : Result (Unit {0}) PhaseStop) (new : Running) : Type 0 where
  pub goes : IfOk r (λ _. DoesAlone P old Continues new)
  pub stops : IfStops r (λ e. DoesAlone P old (job_end e) new)
  pub ready : IfOk r (λ _. IsReady new)
  pub spends : UnlessNoMemory r (Spends old.program n old new)
  pub grows : OnlyGrows old.output new.output

-- a phase of the machine's own program was done, which costs nothing and always continues
abbrev pub DoesFreely : (Object → Phase) → Running → Running → Type 0
DoesFreely P old new = DoesPhase (P old.program) 0 old (Ok tt) new

-- ---- phases with the selected record, and several phases

-- from overflow lines on
abbrev pub detail_time : Object → (Inputs → Selected → Bool) → Phase
detail_time p matches = overflow_lines p before show_match matches before fill_fields p before detail_calculations p

-- the part of a cycle after the selection of a record
abbrev pub after_selection : Object → Left → (Inputs → Selected → Bool) → Phase
after_selection p left matches = total_time p left before end_where_last before detail_time p matches

-- Phases were done that select nothing, up to the one that ended the job, if one did: the result, and its greatest cost.
pub record DoesStage (p : Object) (P : Phase) (n : ℕ) (h : Beside) (old : Running) (r : Result (Unit {0}) PhaseStop) (new : Running) : Type 0 where
  pub goes : IfOk r (λ _. DoesHolding P h old Continues new)
  pub stops : IfStops r (λ e. DoesHolding P h old (job_end e) new)
  pub ready : IfOk r (λ _. IsReady new)
  pub spends : UnlessNoMemory r (Spends p n old new)
  pub grows : OnlyGrows old.output new.output

-- MR showed whether the selected record has a match, by what is kept of earlier records
abbrev pub ShowsMatch : Kept → Option ℕ → Running → Running → Type 0
ShowsMatch k t old new =
    let p = old.program in
    DoesStage p (show_match (match_by p k)) 0 (holding_kept p k t) old (Ok tt) new

-- fields were filled from the selected record, whatever the files
abbrev pub FillsSelected : Kept → Option ℕ → Running → Result (Unit {0}) PhaseStop → Running → Type 0
FillsSelected k t old r new =
    let p = old.program in
    (i : Inputs) → DoesStage p (fill_fields p) (fields_weight p t) (record { inputs = i; selected = selected_in p k t }) old r new

-- with the selected record, by what is kept: overflow lines and what follows
abbrev pub TakesDetailTime : Kept → Option ℕ → Running → Result (Unit {0}) PhaseStop → Running → Type 0
TakesDetailTime k t old r new =
    let p = old.program in
    DoesStage p (detail_time p (match_by p k)) (detail_time_weight p t) (holding_kept p k t) old r new

-- with the selected record, by what is kept: all that follows the selection
abbrev pub FollowsSelection : Kept → Option ℕ → Running → Result (Unit {0}) PhaseStop → Running → Type 0
FollowsSelection k t old r new =
    let p = old.program in
    DoesStage p (after_selection p (left_of k) (match_by p k)) (record_weight p t) (holding_kept p k t) old r new
