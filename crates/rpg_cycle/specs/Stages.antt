-- The stages of a job, and the stage that each result of the code means.
use Rattle.std.specs.Prelude.{Bool, true, false, Result, Ok, Err}
use Rattle.rpg_program.specs.Halts.{halt_number}
use Rattle.rpg_cycle.specs.Ends.{PhaseEnd, Continues, EndOfJob, Halt, Wrong}
use Rattle.rpg_cycle.specs.declared.ends.CycleEnd.{CycleEnd}
use Rattle.rpg_cycle.specs.declared.ends.CycleEnd.TheVariants as answers
use Rattle.rpg_cycle.specs.declared.ends.JobEnd.{JobEnd}
use Rattle.rpg_cycle.specs.declared.ends.JobEnd.TheVariants as jobs
use Rattle.rpg_cycle.specs.declared.ends.PhaseStop.{PhaseStop}
use Rattle.rpg_cycle.specs.declared.ends.PhaseStop.TheVariants as stops
use Rattle.rpg_cycle.specs.declared.ends.Progress as kept
use Rattle.rpg_cycle.specs.declared.ends.Progress.TheVariants as progresses

-- under way, at its end, or failed since memory ran out
pub data Stage : Type 0 where
  Going : Stage
  Ended : PhaseEnd → Stage
  Failed : Stage

-- a cycle follows
abbrev pub is_going : Stage → Bool
is_going Going = true
is_going (Ended e) = false
is_going Failed = false

-- memory ran out
abbrev pub has_failed : Stage → Bool
has_failed Going = false
has_failed (Ended e) = false
has_failed Failed = true

-- the stage that a cycle with this end leads to
abbrev pub stage_at : PhaseEnd → Stage
stage_at Continues = Going
stage_at EndOfJob = Ended EndOfJob
stage_at (Halt k) = Ended (Halt k)
stage_at (Wrong f) = Ended (Wrong f)

-- the end of a job
abbrev pub job_end : JobEnd → PhaseEnd
job_end jobs.EndOfJob = EndOfJob
job_end (jobs.Halt h) = Halt (halt_number h)

-- the stage that a result reports
abbrev pub stage_after : CycleEnd → Stage
stage_after answers.Continues = Going
stage_after answers.EndOfJob = Ended EndOfJob
stage_after (answers.Halt h) = Ended (Halt (halt_number h))
stage_after answers.Failed = Failed

-- the stage that a job keeps
abbrev pub stage_of : kept.Progress → Stage
stage_of progresses.Going = Going
stage_of (progresses.Ended e) = Ended (job_end e)
stage_of progresses.Failed = Failed

-- holds of a call that ended the job; says nothing about one that continues, or that ran out
-- of memory
abbrev pub IfStops : {A : Type 0} → Result A PhaseStop → (JobEnd → Type 0) → Type 0
IfStops (Ok x) P = Unit {0}
IfStops (Err (stops.Ends e)) P = P e
IfStops (Err stops.NoMemory) P = Unit {0}

-- holds of a call that didn't run out of memory
abbrev pub UnlessNoMemory : {A : Type 0} → Result A PhaseStop → Type 0 → Type 0
UnlessNoMemory (Ok x) P = P
UnlessNoMemory (Err (stops.Ends e)) P = P
UnlessNoMemory (Err stops.NoMemory) P = Unit {0}
