use Rattle.std.proofs.Common.{◌≡◌, ◌++◌, drop, map}
use Rattle.rpg_compile.specs.Tests.{tests_in}
use Rattle.rpg_compile_program.specs.Code.{skip_code}
use Rattle.rpg_compile.proofs.tests.push_last.Given as goal

abbrev pub invariant-loop-card : goal.invariant-loop-card
invariant-loop-card l = record {
  so_far : l.code ++ map (skip_code l.following) (tests_in (drop l.card-index l.cards)) ≡ l.initial.code ++ map (skip_code l.following) (tests_in l.cards);
}
