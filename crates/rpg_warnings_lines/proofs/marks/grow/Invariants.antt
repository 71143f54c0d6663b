use Rattle.std.proofs.Common.{◌≡◌, ℕ, ◌+◌, ◌-◌, length}
use Rattle.rpg_warnings_lines.specs.Marks.{least_at}
use Rattle.rpg_warnings_lines.proofs.marks.grow.Given as goal

abbrev pub invariant-loop-least : goal.invariant-loop-least
invariant-loop-least l = (i : ℕ) → least_at i l.least.items ≡ least_at i l.initial.least.items

abbrev pub decreases-loop-least : goal.decreases-loop-least
decreases-loop-least l = (l.place + 1) - length l.least.items
