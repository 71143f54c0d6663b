use Rattle.rpg_edit.proofs.Written.{writes-digit}
use Rattle.rpg_edit.proofs.suppression.Pass.put_three.Goals as goal

pub returns : goal.returns
returns c =
    let two = writes-digit 1 _ _ _ _ _ _ c.put_known.ensures.writes c.put_known-2.ensures.writes in
    record { writes = writes-digit 2 _ _ _ _ _ _ two c.put_known-3.ensures.writes; rest = c.put_known-3.ensures.rest }
