use Rattle.std.proofs.Common.{◌≡◌, ◌-◌, length, drop, map}
use Rattle.rpg_program.specs.Values.{entries_held}
use Rattle.rpg_object_format.specs.Format.{read_times}
use Rattle.rpg_object_format.proofs.Loop.{with_front}
use Rattle.rpg_object.specs.FirstValues.{next_entries, later_fields}
use Rattle.rpg_object.proofs.first_value.values_at.Given as goal

abbrev pub invariant-loop-field : goal.invariant-loop-field
invariant-loop-field l = with_front (map entries_held l.values.items) (read_times (λ s b. (next_entries s).reading b) later_fields (length l.fields - l.field-index) (drop l.field-index l.fields) l.rest) ≡ read_times (λ s b. (next_entries s).reading b) later_fields (length l.fields) l.fields l.bytes
