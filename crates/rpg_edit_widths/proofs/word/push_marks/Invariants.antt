use Rattle.std.proofs.Common.{◌≡◌, ◌++◌, map, take}
use Rattle.rpg_edit_marks.specs.Word.{mark_of}
use Rattle.rpg_edit_widths.proofs.word.push_marks.Given as goal

abbrev pub invariant-loop-character : goal.invariant-loop-character
invariant-loop-character l = l.marks.items ≡ l.initial.marks.items ++ map mark_of (take l.character-index l.part)
