use Rattle.rpg_edit.proofs.Shown.{ones_clear, tens_clear}
use Rattle.rpg_edit.proofs.Written.{writes-digit}
use Rattle.rpg_edit.proofs.suppression.Pass.put_pair.Goals as goal

pub put_known-requires-clause-shows : goal.put_known-requires-clause-shows
put_known-requires-clause-shows c = ones_clear c.args.self.now c.requires.shows

pub put_known-requires-2-clause-shows : goal.put_known-requires-2-clause-shows
put_known-requires-2-clause-shows c =
    let one = c.put_known.ensures in
    tens_clear c.args.self.now c.put_known.new.self c.requires.shows one.rest one.writes.after one.writes.suppression

pub returns : goal.returns
returns c = record { writes = writes-digit 1 _ _ _ _ _ _ c.put_known.ensures.writes c.put_known-2.ensures.writes; rest = c.put_known-2.ensures.rest }
