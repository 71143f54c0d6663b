use Rattle.std.proofs.Common.{◌≡◌, drop, map}
use Rattle.rpg_cycle_records.specs.Fronts.{rest_following}
use Rattle.rpg_cycle_records.specs.Levels as spec
use Rattle.rpg_cycle_records.proofs.levels.following.Given as goal

abbrev pub invariant-loop-byte : goal.invariant-loop-byte
invariant-loop-byte l = rest_following (map (spec.compared_byte l.field.is_numeric) (drop l.byte-index l.columns)) l.rest ≡ rest_following (spec.compared l.text l.field) l.bytes
