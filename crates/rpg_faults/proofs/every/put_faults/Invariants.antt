use Rattle.std.proofs.Common.{◌≡◌, [], ◌++◌, length}
use Rattle.rpg_faults.specs.Before.{AreBefore}
use Rattle.rpg_faults.specs.Reported.{reported_from}
use Rattle.rpg_faults.proofs.every.put_faults.Given as goal

abbrev pub invariant-loop-card : goal.invariant-loop-card
invariant-loop-card l = record {
  split : l.source.cards.now ≡ l.before ++ l.rest;
  known : AreBefore l.source.cards.now l.before l.rest l.known;
  so_far : l.faults.items ++ reported_from l.before l.rest ≡ l.initial.faults.items ++ reported_from [] l.source.cards.now;
}

abbrev pub decreases-loop-card : goal.decreases-loop-card
decreases-loop-card l = length l.rest
