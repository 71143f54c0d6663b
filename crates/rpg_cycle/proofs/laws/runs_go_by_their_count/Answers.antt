use Rattle.rpg_cycle.proofs.Counting.{own_count}
use Rattle.rpg_cycle.proofs.laws.runs_go_by_their_count.Goals as goal

pub returns : goal.returns
returns c = λ n p earlier rs x i course h. own_count p n earlier rs x i course h
