use Rattle.std.proofs.Common.{◌≡◌, ◌≤◌, length, take, drop}
use Rattle.rpg_compile.specs.Tests.{alternatives_from, alternatives_in, tests_in}
use Rattle.rpg_compile.proofs.tests.next_alternative.Given as goal

abbrev pub invariant-loop-i : goal.invariant-loop-i
invariant-loop-i l = record {
  first : 1 ≤ l.i;
  within : l.i ≤ length l.cards;
  so_far : alternatives_in l.cards ≡ alternatives_from (tests_in (take l.i l.cards)) (drop l.i l.cards);
}
