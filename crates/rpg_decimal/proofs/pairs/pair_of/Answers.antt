use Rattle.rpg_decimal.proofs.Table.{pairs_at}
use Rattle.rpg_decimal.proofs.pairs.pair_of.Goals as goal

pub returns-clause-tens : goal.returns-clause-tens
returns-clause-tens c = rw c.from-place.ensures ((pairs_at c.args.two c.requires).0)

pub returns-clause-ones : goal.returns-clause-ones
returns-clause-ones c = rw c.from-place.ensures ((pairs_at c.args.two c.requires).1)
