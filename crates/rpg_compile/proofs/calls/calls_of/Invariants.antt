use Rattle.std.proofs.Common.{◌≡◌, ◌+◌, ◌++◌, length}
use Rattle.rpg_compile.proofs.calls.calls_of.Given as goal
use Rattle.rpg_compile.specs.Called.{numbered_calls_from}
use Rattle.rpg_compile.specs.Numbers.{number_by}
use Rattle.rpg_compile.specs.Walk.{subroutines_in}

abbrev pub invariant-loop-following : goal.invariant-loop-following
invariant-loop-following l = record {
  count : l.caller + length (subroutines_in l.rest) ≡ length (subroutines_in l.cards);
  so_far : l.calls.items ++ numbered_calls_from (number_by l.subroutines) l.caller (subroutines_in l.rest) ≡ numbered_calls_from (number_by l.subroutines) 0 (subroutines_in l.cards);
}

abbrev pub decreases-loop-following : goal.decreases-loop-following
decreases-loop-following l = length l.rest
