use Rattle.rpg_operation_laws.proofs.Results.{computes}
use Rattle.rpg_operation_laws.proofs.operations_do.Goals as goal

pub returns-clause-compute : goal.returns-clause-compute
returns-clause-compute g c = computes g.met.K.Ord.total
