use Rattle.std.proofs.Common.{◌≡◌, drop, map}
use Rattle.rpg_cycle_records.specs.Levels as spec
use Rattle.rpg_cycle_records.proofs.levels.are_digits_of.Given as goal

abbrev pub invariant-loop-i : goal.invariant-loop-i
invariant-loop-i l = spec.same_bytes (drop l.i l.bytes) (map spec.unsigned_digit (drop l.i l.columns)) ≡ spec.same_bytes l.bytes (map spec.unsigned_digit l.columns)
