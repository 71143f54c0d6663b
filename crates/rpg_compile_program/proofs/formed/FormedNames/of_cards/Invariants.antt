use Rattle.std.proofs.Common.{◌≡◌, drop}
use Rattle.rpg_cards.specs.Names.{definitions}
use Rattle.rpg_compile_program.proofs.formed.FormedNames.of_cards.Given as goal
use Rattle.rpg_compile_program.specs.Table.{defined_fields, with_definitions}

abbrev pub invariant-loop-card : goal.invariant-loop-card
invariant-loop-card l = with_definitions l.names (definitions (drop l.card-index l.cards)) ≡ defined_fields l.cards
