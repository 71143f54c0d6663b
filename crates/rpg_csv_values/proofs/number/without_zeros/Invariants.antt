use Rattle.std.proofs.Common.{◌≡◌, ◌==◌, ◌+◌, ◌-◌, ◌≤◌, length, take}
use Rattle.std.specs.List.{suffix_len}
use Rattle.rpg_csv_values.proofs.number.without_zeros.Given as goal

abbrev pub invariant-loop-end : goal.invariant-loop-end
invariant-loop-end l = record { within : l.end ≤ length l.part; following : suffix_len (λ c. c == 48) l.part ≡ length l.part - l.end + suffix_len (λ c. c == 48) (take l.end l.part) }

abbrev pub decreases-loop-end : goal.decreases-loop-end
decreases-loop-end l = l.end
