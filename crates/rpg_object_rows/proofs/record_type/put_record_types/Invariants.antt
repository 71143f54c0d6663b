use Rattle.std.proofs.Common.{◌≡◌, ◌++◌, drop, map}
use Rattle.rpg_object_format.specs.Format.{keep, spelled_along}
use Rattle.rpg_program.specs.Object.{type_row}
use Rattle.rpg_object_rows.specs.Types.{record_type_format}
use Rattle.rpg_object_rows.proofs.record_type.put_record_types.Given as goal

abbrev pub invariant-loop-record_type : goal.invariant-loop-record_type
invariant-loop-record_type l = l.out.items ++ spelled_along (λ s t. (record_type_format l.version).spelling t) keep tt (drop l.record_type-index (map type_row l.types)) ≡ l.initial.out.items ++ spelled_along (λ s t. (record_type_format l.version).spelling t) keep tt (map type_row l.types)
