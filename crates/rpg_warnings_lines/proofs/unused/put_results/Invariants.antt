use Rattle.std.proofs.Common.{◌≡◌, ◌++◌, drop}
use Rattle.rpg_warnings_lines.specs.Unused.{results_from}
use Rattle.rpg_warnings_lines.specs.Uses.{place}
use Rattle.rpg_warnings_lines.proofs.unused.put_results.Given as goal

abbrev pub invariant-loop-card : goal.invariant-loop-card
invariant-loop-card l = record {
  known : l.place ≡ place l.source l.last;
  so_far : l.noted.items ++ results_from l.source (drop l.card-index l.card-items) ≡ l.initial.noted.items ++ results_from l.source l.source;
}
