use Rattle.std.proofs.Common.{◌≡◌, ◌≤◌, length}
use Rattle.rpg_compile.proofs.part.next_subroutine.Given as goal
use Rattle.rpg_compile.specs.Walk.{subroutines_in}

abbrev pub invariant-loop-group : goal.invariant-loop-group
invariant-loop-group l = record {
  same : subroutines_in l.cards ≡ subroutines_in l.rest;
  within : length l.rest ≤ length l.cards;
}

abbrev pub decreases-loop-group : goal.decreases-loop-group
decreases-loop-group l = length l.rest
