use Rattle.std.proofs.Common.{◌≡◌, drop, map}
use Rattle.rpg_program.specs.Object.{type_row}
use Rattle.rpg_cycle.specs.Phases as spec
use Rattle.rpg_cycle.proofs.phases.has_control_fields.Given as goal

abbrev pub invariant-loop-record_type : goal.invariant-loop-record_type
invariant-loop-record_type l = spec.has_control_fields (map type_row (drop l.record_type-index l.types)) ≡ spec.has_control_fields (map type_row l.types)
