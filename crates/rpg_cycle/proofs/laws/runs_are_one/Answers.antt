use Rattle.rpg_cycle.proofs.OneRun.{course_one, bytes_one}
use Rattle.rpg_cycle.proofs.laws.runs_are_one.Goals as goal

pub returns-clause-course : goal.returns-clause-course
returns-clause-course c = course_one

pub returns-clause-bytes : goal.returns-clause-bytes
returns-clause-bytes c = bytes_one
