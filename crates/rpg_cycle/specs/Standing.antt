-- Where a job is at the end of a cycle, and of a run.
use Rattle.std.specs.Prelude.{◌≡◌, ℤ, ◌⊎◌, None}
use Rattle.std.specs.Ordering.{nat_cmp}
use Rattle.rpg_cycle.specs.Ends.{PhaseEnd, Continues, EndOfJob, Halt, Wrong}
use Rattle.rpg_cycle.specs.Runs.{Course, IsRun, Records}
use Rattle.rpg_program.specs.Put.{Bytes}
use Rattle.rpg_program.specs.World.{Fields}
use Rattle.rpg_machine.specs.Config.{Config}
use Rattle.rpg_machine.specs.Laws.{HaltedThere}
use Rattle.rpg_machine.specs.Run.{running_place}
use Rattle.rpg_program.specs.Object.{Object}

-- At the end of calculations; after a halt there, or at the instruction whose step halted. So if a halted job is at an instruction,
-- that instruction halted it, and if it is at none, no instruction did.
abbrev pub StandsRightAtEnd : Object → PhaseEnd → Config → Type 0
StandsRightAtEnd p Continues d = running_place p d ≡ None
StandsRightAtEnd p EndOfJob d = running_place p d ≡ None
StandsRightAtEnd p (Halt k) d = (running_place p d ≡ None) ⊎ HaltedThere p k d
StandsRightAtEnd p (Wrong f) d = Unit {0}

-- so does each run
abbrev pub RunsStandRight : Type 0
RunsStandRight =
    (p : Object) (date : ℤ) (fields : Fields nat_cmp) (records : Records) (course : Course) (bytes : Bytes)
    → IsRun p date fields records course bytes → StandsRightAtEnd p course.ending course.there.config
