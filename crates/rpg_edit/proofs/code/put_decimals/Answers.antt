use Rattle.std.proofs.Common.{arith}
use Rattle.rpg_edit.proofs.Codes.{writes-decimals}
use Rattle.rpg_edit.proofs.code.put_decimals.Goals as goal

pub returns-else-keeps : goal.returns-else-keeps
returns-else-keeps c = writes-decimals c.args.dec _ _ _ _ _ _ (omega (arith, c.if-dec-eq0.false)) c.put_digits.ensures c.put.ensures
