use Rattle.std.proofs.Common.{◌∷◌, ◌∙◌, sym}
use Rattle.std.specs.Prelude.{is_some}
use Rattle.rpg_cards.specs.Calculations.{calculations_before}
use Rattle.rpg_cards.specs.Labels.{label_named, labels}
use Rattle.rpg_cards.specs.declared.names.Definition.{Definition}
use Rattle.rpg_causes_operands.proofs.Listed.{first_some_more, list_any_more}
use Rattle.rpg_causes_operands.proofs.Options.{none_of}
use Rattle.rpg_causes_flow.specs.Labels.{of_definition}
use Rattle.rpg_causes_flow.proofs.labels.of_definitions_among.Goals as goal

pub loop-definition-preserved : goal.loop-definition-preserved
loop-definition-preserved c =
    let before = c.args.before.now in
    let card = c.args.card.now in
    let after = c.args.after.now in
    let items = c.args.items.now in
    let i = c.loop-definition.definition-index in
    let d = c.definition-item.result in
    let no = sym c.is_some.ensures ∙ c.if-is_some.false in
    let none = sym c.if_given-cause.ensures.cause ∙ none_of c.if_given-cause.result no in
    let kept = sym c.if_given-cause.ensures.rule ∙ no in (
      sym (first_some_more (of_definition before card after) items i d c.loop-definition-test.true c.definition-item.is none) ∙ c.loop-definition.invariant.0,
      sym (list_any_more (λ (x : Definition). is_some (label_named x.name (labels (calculations_before before (card ∷ after))))) items i d c.loop-definition-test.true c.definition-item.is kept) ∙ c.loop-definition.invariant.1,
    )
