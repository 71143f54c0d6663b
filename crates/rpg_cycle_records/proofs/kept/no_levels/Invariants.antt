use Rattle.std.proofs.Common.{◌≡◌, None}
use Rattle.std.specs.Prelude.{replicate}
use Rattle.rpg_cycle_records.specs.Keeping.{seen_levels}
use Rattle.rpg_cycle_records.proofs.kept.no_levels.Given as goal

abbrev pub invariant-loop-i : goal.invariant-loop-i
invariant-loop-i l = seen_levels l.levels.items ≡ replicate l.i None
