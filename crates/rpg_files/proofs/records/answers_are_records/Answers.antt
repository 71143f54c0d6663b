use Rattle.rpg_files.proofs.Calls.{all_reported}
use Rattle.rpg_files.proofs.records.answers_are_records.Goals as goal

pub returns : goal.returns
returns c = all_reported
