use Rattle.std.proofs.Common.{◌≡◌, ◌∷◌, ◌++◌, sym, subst}
use Rattle.rpg_cards.specs.Names.{definitions_on}
use Rattle.rpg_causes_flow.proofs.Unlabelled.{none_defined, none_given}
use Rattle.rpg_causes_flow.specs.Index.{DefineNothing}
use Rattle.rpg_causes_flow.proofs.labels.of_definitions.Goals as goal

pub returns-then-is_empty-clause-cause : goal.returns-then-is_empty-clause-cause
returns-then-is_empty-clause-cause c =
    let nothing = subst DefineNothing c.requires (c.is_empty.ensures c.if-is_empty.true) in
    sym (none_defined c.args.before.now c.args.card.now c.args.after.now nothing (definitions_on c.args.card.now.spec))

pub returns-then-is_empty-clause-rule : goal.returns-then-is_empty-clause-rule
returns-then-is_empty-clause-rule c =
    let nothing = subst DefineNothing c.requires (c.is_empty.ensures c.if-is_empty.true) in
    sym (none_given c.args.before.now c.args.card.now c.args.after.now nothing (definitions_on c.args.card.now.spec))
