use Rattle.std.proofs.Common.{arith, ◌-◌}
use Rattle.rpg_edit.proofs.Written.{writes-mark}
use Rattle.rpg_edit.proofs.suppression.Pass.put_all.Goals as goal

pub loop-left-preserved : goal.loop-left-preserved
loop-left-preserved c =
    let marks = c.args.marks.now in
    (writes-mark marks c.loop-left.left (c.loop-left.left - 1) _ _ _ _ _ _ (omega arith) (omega arith) c.loop-left.invariant.0 c.put.ensures, omega arith)
