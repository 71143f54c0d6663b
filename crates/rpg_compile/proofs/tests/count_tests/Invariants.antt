use Rattle.std.proofs.Common.{◌≡◌, ◌+◌, length, drop}
use Rattle.rpg_compile.specs.Tests.{tests_in}
use Rattle.rpg_compile.proofs.tests.count_tests.Given as goal

abbrev pub invariant-loop-card : goal.invariant-loop-card
invariant-loop-card l = l.count + length (tests_in (drop l.card-index l.cards)) ≡ length (tests_in l.cards)
