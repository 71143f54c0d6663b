use Rattle.std.proofs.Common.{◌≡◌, ◌-◌, map}
use Rattle.rpg_object_format.specs.Format.{read_times}
use Rattle.rpg_object_format.proofs.Loop.{with_front}
use Rattle.rpg_program.specs.Object.{subroutine_row}
use Rattle.rpg_object.specs.Subroutines.{subroutine, left_after}
use Rattle.rpg_object.proofs.subroutine.subroutines_at.Given as goal

abbrev pub invariant-loop : goal.invariant-loop
invariant-loop l = with_front (map subroutine_row l.subroutines.items) (read_times (λ s b. (subroutine s).reading b) left_after (l.count - l.counter) l.remaining l.rest) ≡ read_times (λ s b. (subroutine s).reading b) left_after l.count l.left l.bytes
