use Rattle.std.proofs.Common.{◌≤◌, length, drop}
use Rattle.rpg_edit.specs.Written.{Writes}
use Rattle.rpg_edit.proofs.suppression.Pass.put_all.Given as goal

abbrev pub invariant-loop-left : goal.invariant-loop-left
invariant-loop-left l = Writes (drop l.left l.marks) l.initial.self l.initial.out l.self l.out × (l.left ≤ length l.marks)

abbrev pub decreases-loop-left : goal.decreases-loop-left
decreases-loop-left l = l.left
