use Rattle.std.proofs.Common.{◌≡◌, drop}
use Rattle.std.specs.Prelude.{find}
use Rattle.rpg_warnings_lines.specs.Overlaps.{meet}
use Rattle.rpg_warnings_lines.proofs.overlaps.first_below.Given as goal

abbrev pub invariant-loop-below : goal.invariant-loop-below
invariant-loop-below l = find (meet l.field) (drop l.below-index l.placed) ≡ find (meet l.field) l.placed
