use Rattle.std.proofs.Common.{◌≡◌, ◌++◌, drop, map}
use Rattle.rpg_faults.specs.EverySource.{unreadable_reported}
use Rattle.rpg_faults.proofs.every_source.reported.Given as goal

abbrev pub invariant-loop-card : goal.invariant-loop-card
invariant-loop-card l = l.reported.items ++ map unreadable_reported (drop l.card-index l.cards) ≡ map unreadable_reported l.cards
