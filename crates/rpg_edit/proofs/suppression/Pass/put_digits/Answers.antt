use Rattle.rpg_edit.proofs.Written.{writes-digit}
use Rattle.rpg_edit.proofs.suppression.Pass.put_digits.Goals as goal

pub loop-preserved : goal.loop-preserved
loop-preserved c = writes-digit c.loop.counter _ _ _ _ _ _ c.loop.invariant c.put_digit.ensures
