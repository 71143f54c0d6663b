use Rattle.std.proofs.Common.{arith}
use Rattle.rpg_edit.proofs.Written.{writes-digit}
use Rattle.rpg_edit.proofs.suppression.Pass.put_kept_digits.Goals as goal

pub loop-preserved : goal.loop-preserved
loop-preserved c = (writes-digit c.loop.counter _ _ _ _ _ _ c.loop.invariant.0 c.put_clear_digit.ensures.writes, omega (arith, c.loop.invariant.1, c.put_clear_digit.ensures.writes.after))
