use Rattle.std.proofs.Common.{◌≡◌, drop}
use Rattle.rpg_causes_flow.specs.Labels.{any_given, of_definition}
use Rattle.rpg_causes_operands.specs.Names.{first_some}
use Rattle.rpg_causes_flow.proofs.labels.of_definitions_among.Given as goal

abbrev pub invariant-loop-definition : goal.invariant-loop-definition
invariant-loop-definition l =
    (first_some (of_definition l.before l.card l.after) (drop l.definition-index l.items) ≡ first_some (of_definition l.before l.card l.after) l.items)
    × (any_given l.before l.card l.after (drop l.definition-index l.items) ≡ any_given l.before l.card l.after l.items)
