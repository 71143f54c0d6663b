use Rattle.std.proofs.Common.{◌≡◌, take}
use Rattle.rpg_text.specs.Texts.{all_blank}
use Rattle.rpg_sheet_values.proofs.marks.has_only_blanks.Given as goal

abbrev pub invariant-loop-character : goal.invariant-loop-character
invariant-loop-character l = l.are_all ≡ all_blank (take l.character-index l.text)
