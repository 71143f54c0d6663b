use Rattle.std.proofs.Common.{◌≡◌, ◌+◌, ◌≤◌, not, length, take}
use Rattle.std.specs.List.{suffix_len}
use Rattle.rpg_edit_marks.specs.Edited.{is_digit_place}
use Rattle.rpg_edit_widths.proofs.word.places_end.Given as goal

-- the marks passed so far and those after the last place of what is left are the marks after the last place
abbrev pub invariant-loop-end : goal.invariant-loop-end
invariant-loop-end l =
    (l.end + suffix_len (λ m. not (is_digit_place m)) l.marks ≡ length l.marks + suffix_len (λ m. not (is_digit_place m)) (take l.end l.marks)) × (l.end ≤ length l.marks)

abbrev pub decreases-loop-end : goal.decreases-loop-end
decreases-loop-end l = l.end
