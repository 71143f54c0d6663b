use Rattle.std.proofs.Common.{◌≡◌, ℕ, drop}
use Rattle.rpg_warnings_lines.specs.Marks.{least_at, least_with}
use Rattle.rpg_warnings_lines.specs.Unused.{printed_from}
use Rattle.rpg_warnings_lines.specs.Uses.{place}
use Rattle.rpg_warnings_lines.proofs.unused.lower_printed.Given as goal

abbrev pub invariant-loop-card : goal.invariant-loop-card
invariant-loop-card l = record {
  known : l.place ≡ place l.source l.last;
  lowered : (i : ℕ) → least_with i (least_at i l.read.items) (printed_from l.source (drop l.card-index l.card-items)) ≡ least_with i (least_at i l.initial.read.items) (printed_from l.source l.source);
}
