use Rattle.std.specs.Prelude.{drop}
use Rattle.rpg_compile_program.proofs.ranges.cards_are_in_range.Given as goal
use Rattle.rpg_compile_program.specs.Ranges.{AreCards}

abbrev pub invariant-loop-card : goal.invariant-loop-card
invariant-loop-card l = record {
  following : AreCards (drop l.card-index l.cards) → AreCards l.cards;
}
