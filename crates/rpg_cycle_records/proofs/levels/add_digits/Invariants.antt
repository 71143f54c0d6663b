use Rattle.std.proofs.Common.{◌≡◌, ◌++◌, drop, map}
use Rattle.rpg_cycle_records.specs.Levels as spec
use Rattle.rpg_cycle_records.proofs.levels.add_digits.Given as goal

abbrev pub invariant-loop-byte : goal.invariant-loop-byte
invariant-loop-byte l = l.bytes.items ++ map spec.unsigned_digit (drop l.byte-index l.columns) ≡ l.initial.bytes.items ++ map spec.unsigned_digit l.columns
