use Rattle.std.proofs.Common.{◌≡◌, ◌++◌, map, take}
use Rattle.rpg_edit_marks.specs.Word.{always_mark}
use Rattle.rpg_edit_widths.proofs.word.push_always.Given as goal

abbrev pub invariant-loop-character : goal.invariant-loop-character
invariant-loop-character l = l.marks.items ≡ l.initial.marks.items ++ map always_mark (take l.character-index l.part)
