use Rattle.std.proofs.Common.{◌≡◌, drop}
use Rattle.rpg_compile_program.proofs.formed.FormedNames.add_names_on.Given as goal
use Rattle.rpg_compile_program.specs.Table.{with_definitions}

abbrev pub invariant-loop-definition : goal.invariant-loop-definition
invariant-loop-definition l = with_definitions l.self (drop l.definition-index l.definition-items) ≡ with_definitions l.initial.self l.definition-items
