use Rattle.std.proofs.Common.{◌≡◌, ◌+◌, map, drop}
use Rattle.rpg_program.specs.Weights.{types_weight}
use Rattle.rpg_program.specs.Object.{type_row}
use Rattle.rpg_verify.proofs.weights.types_weight.Given as goal

abbrev pub invariant-loop-record_type : goal.invariant-loop-record_type
invariant-loop-record_type l = l.sum + types_weight (map type_row (drop l.record_type-index l.rows.types.items)) ≡ types_weight (map type_row l.rows.types.items)
