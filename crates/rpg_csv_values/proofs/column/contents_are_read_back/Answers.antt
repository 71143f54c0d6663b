use Rattle.rpg_csv_values.proofs.ContentLemmas.{read_again}
use Rattle.rpg_csv_values.proofs.column.contents_are_read_back.Goals as goal

pub returns : goal.returns
returns c = read_again
