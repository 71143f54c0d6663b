use Rattle.std.proofs.Common.{◌≡◌, ◌++◌, length}
use Rattle.rpg_causes_flow.specs.Flow.{IsFlow}
use Rattle.rpg_causes_flow.specs.Index.{IsIndexOf}
use Rattle.rpg_causes_flow.proofs.index.names_of.Given as goal

abbrev pub invariant-loop-card : goal.invariant-loop-card
invariant-loop-card l = record {
  split : l.cards ≡ l.before ++ l.rest;
  flow : IsFlow l.before l.rest l.flow;
  index : IsIndexOf l.names.entries l.before l.rest;
}

abbrev pub decreases-loop-card : goal.decreases-loop-card
decreases-loop-card l = length l.rest
