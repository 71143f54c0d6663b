use Rattle.rpg_record_lines.proofs.BackLemmas.{records_back}
use Rattle.rpg_record_lines.proofs.ForthLemmas.{lines_back}
use Rattle.rpg_record_lines.proofs.laws.lines_come_back.Goals as goal

pub returns-clause-records : goal.returns-clause-records
returns-clause-records c = records_back

pub returns-clause-lines : goal.returns-clause-lines
returns-clause-lines c = lines_back
