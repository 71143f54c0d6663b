use Rattle.std.proofs.Common.{◌≡◌, ◌-◌, map}
use Rattle.rpg_program.specs.Values.{held}
use Rattle.rpg_object_format.specs.Format.{keep, read_times}
use Rattle.rpg_object_format.proofs.Loop.{with_front}
use Rattle.rpg_object.specs.FirstValues.{value}
use Rattle.rpg_object.proofs.first_value.entries_at.Given as goal

abbrev pub invariant-loop : goal.invariant-loop
invariant-loop l = with_front (map held l.entries.items) (read_times (λ s b. (value l.form.kind l.form.length).reading b) keep (l.form.entries - l.counter) tt l.rest) ≡ read_times (λ s b. (value l.form.kind l.form.length).reading b) keep l.form.entries tt l.bytes
