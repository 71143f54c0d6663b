use Rattle.std.proofs.Common.{◌≡◌, ◌-◌, map}
use Rattle.rpg_object_format.specs.Format.{keep, read_times}
use Rattle.rpg_object_format.proofs.Loop.{with_front}
use Rattle.rpg_object_rows.proofs.table.rows_at.Given as goal

abbrev pub invariant-loop : goal.invariant-loop
invariant-loop g l = with_front (map g.T.Row.seen l.rows.items) (read_times (λ s b. g.T.Row.read b) keep (l.count - l.counter) tt l.rest) ≡ read_times (λ s b. g.T.Row.read b) keep l.count tt l.bytes
