use Rattle.std.proofs.Common.{[], ◌∷◌, replicate}
use Rattle.rpg_edit_marks.specs.declared.mark.Mark.TheVariants.{Digit, Insert}
use Rattle.rpg_edit.proofs.Written.{writes-more}
use Rattle.rpg_edit.proofs.code.put_date.Goals as goal

pub returns : goal.returns
returns c =
    writes-more (Insert 47 ∷ Digit ∷ Digit ∷ Insert 47 ∷ Digit ∷ Digit ∷ []) (replicate 2 Digit) _ _ _ _ _ _
    (writes-more (Insert 47 ∷ Digit ∷ Digit ∷ []) (Insert 47 ∷ Digit ∷ Digit ∷ []) _ _ _ _ _ _ c.put_slash_and_digits.ensures c.put_slash_and_digits-2.ensures)
    c.put_digits.ensures
