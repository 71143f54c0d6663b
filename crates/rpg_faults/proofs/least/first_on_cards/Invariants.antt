use Rattle.std.proofs.Common.{◌≡◌, [], ◌++◌, length}
use Rattle.rpg_faults.specs.Before.{AreBefore}
use Rattle.rpg_faults.specs.Faults.{least_fault_from}
use Rattle.rpg_faults.proofs.least.first_on_cards.Given as goal

abbrev pub invariant-loop-card : goal.invariant-loop-card
invariant-loop-card l = record {
  split : l.source.cards.now ≡ l.before ++ l.rest;
  known : AreBefore l.source.cards.now l.before l.rest l.known;
  so_far : least_fault_from l.before l.rest ≡ least_fault_from [] l.source.cards.now;
}

abbrev pub decreases-loop-card : goal.decreases-loop-card
decreases-loop-card l = length l.rest
