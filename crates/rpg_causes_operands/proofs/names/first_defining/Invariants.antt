use Rattle.std.proofs.Common.{◌≡◌, drop}
use Rattle.rpg_causes_operands.specs.Names.{first_defining}
use Rattle.rpg_causes_operands.proofs.names.first_defining.Given as goal

abbrev pub invariant-loop-card : goal.invariant-loop-card
invariant-loop-card l = first_defining l.name (drop l.card-index l.cards) ≡ first_defining l.name l.cards
