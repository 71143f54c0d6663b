use Rattle.std.proofs.Common.{◌≡◌, drop}
use Rattle.rpg_cycle_records.specs.Keeping.{seen_levels}
use Rattle.rpg_cycle_records.specs.Lasting.{are_last}
use Rattle.rpg_cycle_records.proofs.levels.are_all_last.Given as goal

abbrev pub invariant-loop-i : goal.invariant-loop-i
invariant-loop-i l = are_last (seen_levels l.levels) l.text (drop l.i l.fields) ≡ are_last (seen_levels l.levels) l.text l.fields
