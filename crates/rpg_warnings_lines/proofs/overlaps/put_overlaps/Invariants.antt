use Rattle.std.proofs.Common.{◌≡◌, ◌++◌, drop}
use Rattle.rpg_warnings_lines.specs.Overlaps.{overlaps_from}
use Rattle.rpg_warnings_lines.proofs.overlaps.put_overlaps.Given as goal

abbrev pub invariant-loop-card : goal.invariant-loop-card
invariant-loop-card l =
    l.warnings.items ++ overlaps_from l.source l.placed.items (drop l.card-index l.card-items)
    ≡ l.initial.warnings.items ++ overlaps_from l.source l.initial.placed.items l.source
