-- What a cycle requires, its result, and what it leaves if it continues.
use Rattle.std.specs.Prelude.{◌≡◌, ℕ, ◌<◌, ◌≤◌, List, Option, Result, IfOk, length}
use Rattle.std.specs.Option.{ForSome}
use denote.Bor.{Bor}
use Rattle.rpg_cycle.specs.Doing.{CycleEnds, CycleContinues, IsSeen}
use Rattle.rpg_cycle.specs.Selecting.{RenewsLeft}
use Rattle.rpg_cycle.specs.Spending.{Spends, phases_weight}
use Rattle.rpg_cycle.specs.Stages.{IfStops, UnlessNoMemory, job_end}
use Rattle.rpg_cycle.specs.declared.ends.PhaseStop.{PhaseStop}
use Rattle.rpg_cycle.specs.declared.seen.Seen.{Seen}
use Rattle.rpg_cycle_records.specs.Holding.{AreFilesKept}
use Rattle.rpg_cycle_records.specs.declared.kept.Kept.{Kept}
use Rattle.rpg_program.specs.Fronts.{OnlyGrows}
use Rattle.rpg_machine.specs.Ready.{IsReady}
use Rattle.rpg_machine.specs.Running.{Running, refilled}
use Rattle.rpg_program.specs.Object.{Object}
use Rattle.rpg_verify.specs.Bound.{bound}

-- the next records of both files have only characters, if they were checked
pub record AreSeen (seen : Seen) (first second : Option (Bor (List ℕ))) : Type 0 where
  pub primary : IsSeen seen.primary first
  pub secondary : IsSeen seen.secondary second

-- nine levels and both files are kept, and fit the program
pub record KeepsWell (p : Object) (k : Kept) : Type 0 where
  pub nine : length k.levels.items ≡ 9
  pub files : AreFilesKept p k

-- a machine did a cycle that selected the record of that type, if one was selected, and everything is as the next cycle requires
pub record HasCycled (p : Object) (k : Kept) (primary secondary : Option (Bor (List ℕ))) (old : Running) (t : Option ℕ) (k' : Kept) (new : Running) : Type 0 where
  pub goes : CycleContinues p k primary secondary old t k' new
  pub ready : IsReady new
  pub there : ForSome t (λ n. n < length p.types)
  pub left : RenewsLeft p t k k'
  pub kept : AreFilesKept p k'

-- all phases of a cycle were done, up to the one that ended the job, if one did: the result, and its cost at most
pub record DoesPhases (p : Object) (k : Kept) (primary secondary : Option (Bor (List ℕ))) (old : Running) (r : Result (Option ℕ) PhaseStop) (k' : Kept) (new : Running) : Type 0 where
  pub goes : IfOk r (λ t. HasCycled p k primary secondary old t k' new)
  pub stops : IfStops r (λ e. CycleEnds p k primary secondary old (job_end e) new)
  pub spends : UnlessNoMemory r (Spends p (phases_weight p) old new)
  pub grows : OnlyGrows old.output new.output

-- a cycle was done with a full allowance: its result, within the program's bound
pub record RunsCycle (k : Kept) (primary secondary : Option (Bor (List ℕ))) (old : Running) (r : Result (Option ℕ) PhaseStop) (k' : Kept) (new : Running) : Type 0 where
  pub goes : IfOk r (λ t. HasCycled old.program k primary secondary (refilled old) t k' new)
  pub stops : IfStops r (λ e. CycleEnds old.program k primary secondary (refilled old) (job_end e) new)
  pub few : UnlessNoMemory r (new.config.steps ≤ bound old.program)
  pub grows : OnlyGrows old.output new.output
