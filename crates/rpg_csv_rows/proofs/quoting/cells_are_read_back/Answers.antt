use Rattle.rpg_csv_rows.proofs.QuoteLemmas.{read_back}
use Rattle.rpg_csv_rows.proofs.quoting.cells_are_read_back.Goals as goal

pub returns : goal.returns
returns c = read_back
