use Rattle.std.proofs.Common.{◌≡◌, ◌+◌, ◌-◌, ◌≤◌, length, take}
use Rattle.std.specs.List.{suffix_len}
use Rattle.rpg_text.specs.Texts.{is_blank}
use Rattle.rpg_text.proofs.blank.end_by_eight.Given as goal

abbrev pub invariant-loop-end : goal.invariant-loop-end
invariant-loop-end l = record { within : l.end ≤ length l.text; following : suffix_len is_blank l.text ≡ length l.text - l.end + suffix_len is_blank (take l.end l.text) }

abbrev pub decreases-loop-end : goal.decreases-loop-end
decreases-loop-end l = l.end
