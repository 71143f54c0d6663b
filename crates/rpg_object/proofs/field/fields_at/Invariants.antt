use Rattle.std.proofs.Common.{◌≡◌, ◌-◌}
use Rattle.rpg_object_format.specs.Format.{read_times}
use Rattle.rpg_object_format.proofs.Loop.{with_front}
use Rattle.rpg_object.specs.Fields.{field, storage_after}
use Rattle.rpg_object.proofs.field.fields_at.Given as goal

abbrev pub invariant-loop : goal.invariant-loop
invariant-loop l = with_front l.fields.items (read_times (λ s b. (field s).reading b) storage_after (l.count - l.counter) l.storage l.rest) ≡ read_times (λ s b. (field s).reading b) storage_after l.count 65535 l.bytes
