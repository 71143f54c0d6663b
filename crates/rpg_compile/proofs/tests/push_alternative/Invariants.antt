use Rattle.std.proofs.Common.{◌≡◌, ◌++◌, drop, length}
use Rattle.rpg_compile.specs.Tests.{tests_in}
use Rattle.rpg_compile_program.specs.Code.{alternative_code}
use Rattle.rpg_compile.proofs.tests.push_alternative.Given as goal

abbrev pub invariant-loop-card : goal.invariant-loop-card
invariant-loop-card l = record {
  so_far : l.code ++ alternative_code l.next l.operation (tests_in (drop l.card-index l.cards)) ≡ l.initial.code ++ alternative_code l.next l.operation (tests_in l.cards);
  left : l.left ≡ length (tests_in (drop l.card-index l.cards));
}
