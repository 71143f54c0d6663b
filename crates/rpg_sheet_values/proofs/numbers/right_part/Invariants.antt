use Rattle.std.proofs.Common.{◌≡◌, ◌+◌, ◌-◌, ◌≤◌, length, drop}
use Rattle.std.specs.List.{prefix_len}
use Rattle.rpg_text.specs.Texts.{is_blank}
use Rattle.rpg_sheet_values.proofs.numbers.right_part.Given as goal

abbrev pub invariant-loop-start : goal.invariant-loop-start
invariant-loop-start l = record { within : l.start ≤ length l.text; before : prefix_len is_blank l.text ≡ l.start + prefix_len is_blank (drop l.start l.text) }

abbrev pub decreases-loop-start : goal.decreases-loop-start
decreases-loop-start l = length l.text - l.start
