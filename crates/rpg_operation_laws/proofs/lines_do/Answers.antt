use Rattle.rpg_operation_laws.proofs.Lines.{puts_exceptions}
use Rattle.rpg_operation_laws.proofs.lines_do.Goals as goal

pub returns-clause-exceptions : goal.returns-clause-exceptions
returns-clause-exceptions g c = puts_exceptions
