use Rattle.std.proofs.Common.{◌≡◌, ◌-◌, map}
use Rattle.rpg_object_format.specs.Format.{keep, read_times}
use Rattle.rpg_object_format.proofs.Loop.{with_front}
use Rattle.rpg_program.specs.Object.{type_row}
use Rattle.rpg_object_rows.specs.Types.{record_type_format}
use Rattle.rpg_object_rows.proofs.record_type.record_types_at.Given as goal

abbrev pub invariant-loop : goal.invariant-loop
invariant-loop l = with_front (map type_row l.types.items) (read_times (λ s b. (record_type_format l.version).reading b) keep (l.count - l.counter) tt l.rest) ≡ read_times (λ s b. (record_type_format l.version).reading b) keep l.count tt l.bytes
