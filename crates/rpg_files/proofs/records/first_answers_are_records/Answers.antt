use Rattle.rpg_files.proofs.Calls.{first_reported}
use Rattle.rpg_files.proofs.records.first_answers_are_records.Goals as goal

pub returns : goal.returns
returns c = first_reported
