use Rattle.std.proofs.Common.{◌≡◌, ◌≤◌, length}
use Rattle.rpg_cards.specs.Calculations.{calculations}
use Rattle.rpg_compile.proofs.group.up_to_calculations.Given as goal

abbrev pub invariant-loop-card : goal.invariant-loop-card
invariant-loop-card l = record {
  same : calculations l.cards ≡ calculations l.rest;
  within : length l.rest ≤ length l.cards;
}

abbrev pub decreases-loop-card : goal.decreases-loop-card
decreases-loop-card l = length l.rest
