use Rattle.std.proofs.Common.{◌≡◌, ℕ, drop}
use Rattle.rpg_warnings_lines.specs.Marks.{least, least_at, least_with}
use Rattle.rpg_warnings_lines.proofs.marks.least_of.Given as goal

abbrev pub invariant-loop-mark : goal.invariant-loop-mark
invariant-loop-mark l = (place : ℕ) → least_with place (least_at place l.least.items) (drop l.mark-index l.noted) ≡ least place l.noted
