use Rattle.std.proofs.Common.{◌≡◌, ◌++◌, drop, map}
use Rattle.rpg_object_format.specs.Format.{keep, spelled_along}
use Rattle.rpg_program.specs.Object.{subroutine_row}
use Rattle.rpg_object.proofs.SubroutineLaws.{subroutine_text}
use Rattle.rpg_object.proofs.subroutine.put_subroutines.Given as goal

abbrev pub invariant-loop-subroutine : goal.invariant-loop-subroutine
invariant-loop-subroutine l = l.out.items ++ spelled_along (λ u s. subroutine_text s) keep tt (drop l.subroutine-index (map subroutine_row l.list)) ≡ l.initial.out.items ++ spelled_along (λ u s. subroutine_text s) keep tt (map subroutine_row l.list)
