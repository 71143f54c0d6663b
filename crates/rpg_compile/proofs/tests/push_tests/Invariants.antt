use Rattle.std.proofs.Common.{◌≡◌, ◌+◌, ◌++◌, ◌<◌, length}
use Rattle.rpg_compile.specs.Tests.{alternatives_in, tests_in}
use Rattle.rpg_compile_program.specs.Code.{tests_code}
use Rattle.rpg_compile.proofs.tests.push_tests.Given as goal

abbrev pub invariant-loop-end : goal.invariant-loop-end
invariant-loop-end l = record {
  some : 0 < length l.rest;
  places : l.at + length (tests_in l.rest) ≡ l.place + length (tests_in l.cards);
  so_far : l.code ++ tests_code l.at l.operation l.following (alternatives_in l.rest) ≡ l.initial.code ++ tests_code l.place l.operation l.following (alternatives_in l.cards);
}

abbrev pub decreases-loop-end : goal.decreases-loop-end
decreases-loop-end l = length l.rest
