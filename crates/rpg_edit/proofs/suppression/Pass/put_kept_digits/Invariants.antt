use Rattle.std.proofs.Common.{◌≡◌, ◌+◌, replicate}
use Rattle.rpg_edit_marks.specs.declared.mark.Mark.TheVariants.{Digit}
use Rattle.rpg_edit.specs.Written.{Writes}
use Rattle.rpg_edit.proofs.suppression.Pass.put_kept_digits.Given as goal

abbrev pub invariant-loop : goal.invariant-loop
invariant-loop l = Writes (replicate l.counter Digit) l.initial.self l.initial.out l.self l.out × (l.self.after ≡ l.initial.self.after + l.counter)
