use Rattle.std.proofs.Common.{◌≡◌, drop}
use Rattle.std.specs.List.{list_any}
use Rattle.rpg_cards.specs.Names.{is_of}
use Rattle.rpg_causes_operands.proofs.names.defines.Given as goal

abbrev pub invariant-loop-definition : goal.invariant-loop-definition
invariant-loop-definition l = list_any (is_of l.name) (drop l.definition-index l.definition-items) ≡ list_any (is_of l.name) l.definition-items
