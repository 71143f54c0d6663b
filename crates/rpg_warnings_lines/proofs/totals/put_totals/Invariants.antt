use Rattle.std.proofs.Common.{◌≡◌, ◌++◌, drop}
use Rattle.rpg_warnings_lines.specs.Totals.{totals_from, totals_of}
use Rattle.rpg_warnings_lines.proofs.totals.put_totals.Given as goal

abbrev pub invariant-loop-card : goal.invariant-loop-card
invariant-loop-card l = l.marks.items ++ totals_from l.noted l.source l.line (drop l.card-index l.card-items) ≡ l.initial.marks.items ++ totals_of l.noted l.source
