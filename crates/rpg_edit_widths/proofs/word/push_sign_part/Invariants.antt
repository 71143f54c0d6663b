use Rattle.std.proofs.Common.{◌≡◌, ◌++◌, ◌+◌, drop}
use Rattle.arrayvec.specs.ArrayVec.{array_vec_len}
use Rattle.rpg_edit_marks.specs.Word.{sign_part}
use Rattle.rpg_edit_widths.proofs.word.push_sign_part.Given as goal

abbrev pub invariant-loop-i : goal.invariant-loop-i
invariant-loop-i l =
    (l.marks.items ++ sign_part (drop l.i l.part) ≡ l.initial.marks.items ++ sign_part l.part)
    × (array_vec_len l.marks ≡ array_vec_len l.initial.marks + l.i)
