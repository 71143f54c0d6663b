use Rattle.std.proofs.Common.{◌≡◌, ℕ, drop}
use Rattle.rpg_warnings_lines.specs.Marks.{least_at, least_with, marks_of}
use Rattle.rpg_warnings_lines.proofs.marks.lower_each.Given as goal

abbrev pub invariant-loop-place : goal.invariant-loop-place
invariant-loop-place l = (i : ℕ) → least_with i (least_at i l.least.items) (marks_of l.value (drop l.place-index l.places)) ≡ least_with i (least_at i l.initial.least.items) (marks_of l.value l.places)
