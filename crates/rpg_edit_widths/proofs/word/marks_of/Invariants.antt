use Rattle.std.proofs.Common.{◌≡◌, ◌++◌, drop}
use Rattle.arrayvec.specs.ArrayVec.{array_vec_len}
use Rattle.rpg_edit_marks.specs.Word.{marks_of}
use Rattle.rpg_edit_widths.proofs.word.marks_of.Given as goal

abbrev pub invariant-loop-i : goal.invariant-loop-i
invariant-loop-i l = (l.marks.items ++ marks_of (drop l.i l.word) ≡ marks_of l.word) × (array_vec_len l.marks ≡ l.i)
