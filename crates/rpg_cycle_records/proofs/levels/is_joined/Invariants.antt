use Rattle.std.proofs.Common.{◌≡◌, drop}
use Rattle.rpg_cycle_records.specs.Levels as spec
use Rattle.rpg_cycle_records.proofs.levels.is_joined.Given as goal

abbrev pub invariant-loop-field : goal.invariant-loop-field
invariant-loop-field l = spec.same_bytes l.rest (spec.joined_bytes (drop l.field-index l.fields) l.text l.level) ≡ spec.same_bytes l.bytes (spec.joined_bytes l.fields l.text l.level)
