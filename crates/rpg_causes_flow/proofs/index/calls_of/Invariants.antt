use Rattle.std.proofs.Common.{◌≡◌, [], ◌++◌, length}
use Rattle.rpg_cards.specs.Calculations.{calculations, calculations_before}
use Rattle.rpg_cards.specs.Calls.{calls_after}
use Rattle.rpg_cards.specs.Labels.{labels}
use Rattle.rpg_causes_flow.specs.Flow.{IsFlow}
use Rattle.rpg_causes_flow.proofs.index.calls_of.Given as goal

abbrev pub invariant-loop-card : goal.invariant-loop-card
invariant-loop-card l = record {
  split : l.cards ≡ l.before ++ l.rest;
  flow : IsFlow l.before l.rest l.flow;
  calls : l.calls.items ≡ calls_after (labels (calculations l.cards)) [] (calculations_before l.before l.rest);
}

abbrev pub decreases-loop-card : goal.decreases-loop-card
decreases-loop-card l = length l.rest
