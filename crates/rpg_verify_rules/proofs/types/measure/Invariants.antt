use Rattle.std.proofs.Common.{◌≡◌, map, drop}
use Rattle.rpg_program.specs.Object.{type_row}
use Rattle.rpg_verify_rules.specs.TypeRules.{measure}
use Rattle.rpg_verify_rules.proofs.types.measure.Given as goal

abbrev pub invariant-loop-record_type : goal.invariant-loop-record_type
invariant-loop-record_type l = measure l.level (map type_row (drop l.record_type-index l.types)) ≡ measure l.level (map type_row l.types)
