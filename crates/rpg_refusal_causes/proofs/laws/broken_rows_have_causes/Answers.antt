use Rattle.rpg_refusal_causes.proofs.Exact.{exact}
use Rattle.rpg_refusal_causes.proofs.laws.broken_rows_have_causes.Goals as goal

pub returns : goal.returns
returns c = λ p r row. exact p r row
