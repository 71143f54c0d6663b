use Rattle.std.proofs.Common.{[], ◌∷◌, replicate}
use Rattle.rpg_edit_marks.specs.declared.mark.Mark.TheVariants.{Digit, Insert}
use Rattle.rpg_edit.proofs.Written.{writes-more}
use Rattle.rpg_edit.proofs.code.put_slash_and_digits.Goals as goal

pub returns : goal.returns
returns c = writes-more (replicate 2 Digit) (Insert 47 ∷ []) _ _ _ _ _ _ c.put_digits.ensures c.put.ensures
