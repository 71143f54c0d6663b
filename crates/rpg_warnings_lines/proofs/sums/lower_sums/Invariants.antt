use Rattle.std.proofs.Common.{◌≡◌, ℕ, drop}
use Rattle.rpg_warnings_lines.specs.Marks.{least_at, least_with}
use Rattle.rpg_warnings_lines.specs.Sums.{sums_from, sums_of}
use Rattle.rpg_warnings_lines.proofs.sums.lower_sums.Given as goal

abbrev pub invariant-loop-card : goal.invariant-loop-card
invariant-loop-card l = (i : ℕ) → least_with i (least_at i l.added.items) (sums_from l.source l.level (drop l.card-index l.card-items)) ≡ least_with i (least_at i l.initial.added.items) (sums_of l.source)
