use Rattle.std.proofs.Common.{◌≡◌, ◌==◌, ◌+◌, ◌-◌, ◌≤◌, length, take}
use Rattle.std.specs.List.{suffix_len}
use Rattle.rpg_pdf.proofs.page.without_last_line_feeds.Given as goal

abbrev pub invariant-loop-end : goal.invariant-loop-end
invariant-loop-end l = record { within : l.end ≤ length l.page; following : suffix_len (λ b. b == 10) l.page ≡ length l.page - l.end + suffix_len (λ b. b == 10) (take l.end l.page) }

abbrev pub decreases-loop-end : goal.decreases-loop-end
decreases-loop-end l = l.end
