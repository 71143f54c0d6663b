-- What happens to the files that a run writes beside their places.
use Rattle.std.specs.Prelude.{◌≡◌, ◌⊎◌, Result, Ok, Err, IsErrAnd, ⊤}
use Rattle.rpg_cli_answers.specs.declared.answer.Answer.{Answer}
use Rattle.rpg_cli_answers.specs.declared.answer.Answer.TheVariants as answers
use Rattle.rpg_cli_answers.specs.declared.stop.CommandStop.{CommandStop}
use Rattle.rpg_cli_answers.specs.declared.stop.CommandStop.TheVariants as stops
use Rattle.rpg_cli_jobs.specs.declared.keeping.Disposition.{Disposition}
use Rattle.rpg_cli_jobs.specs.declared.keeping.Disposition.TheVariants as dispositions
use Rattle.rpg_engine.specs.JobEnd.{JobEnd}
use Rattle.rpg_engine.specs.JobEnd.TheVariants as endings
use Rattle.rpg_engine.specs.declared.report.Report.{Report}

-- At the end of a job they are moved to their places. At a halt they are left beside them.
abbrev pub disposition_at : JobEnd → Disposition
disposition_at endings.EndOfJob = dispositions.Placed
disposition_at (endings.Halt halt) = dispositions.Left

-- A job that gave no report leaves them beside too. Where no job began they are removed.
abbrev pub disposition_of : Result Report CommandStop → Disposition
disposition_of (Ok report) = disposition_at report.ending
disposition_of (Err (stops.Job answer reasons)) = dispositions.Left
disposition_of (Err stop) = dispositions.Removed

-- the file that a word names failed
abbrev pub IsOfFile : Answer → Type 0
IsOfFile (answers.File argument fault) = ⊤
IsOfFile answer = ⊥

-- the answer is a file's fault
abbrev pub StopsForFile : CommandStop → Type 0
StopsForFile (stops.Answer answer) = IsOfFile answer
StopsForFile stop = ⊥

-- the run's own answer; or, if its files were to be moved to their places, that of a file that can't be
abbrev pub KeepsAnswer : (ran given : Result Report CommandStop) → Type 0
KeepsAnswer ran given = (given ≡ ran) ⊎ ((disposition_of ran ≡ dispositions.Placed) × IsErrAnd given StopsForFile)
