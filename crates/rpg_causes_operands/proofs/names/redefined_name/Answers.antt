use Rattle.std.proofs.Common.{◌∙◌, ap, arith, refl, sym}
use Rattle.rpg_card_index.specs.Index.{StandAt}
use Rattle.rpg_cards.specs.Names.{definitions, definitions_on}
use Rattle.rpg_causes_operands.proofs.NameLemmas.{card_stands, few_before, taken_before}
use Rattle.rpg_causes_operands.proofs.NewNames.{alone_keeps, alone_none}
use Rattle.rpg_causes_operands.specs.Names.{redefined_among}
use Rattle.rpg_faults_limits.specs.Names.{redefine}
use Rattle.rpg_causes_operands.proofs.names.redefined_name.Goals as goal

pub redefined_among-requires-clause-few : goal.redefined_among-requires-clause-few
redefined_among-requires-clause-few c =
    omega (arith, c.requires.count, few_before c.args.source.now c.args.before.now c.args.card.now c.args.after.now c.requires.split c.requires.few)

pub redefined_among-requires-clause-stand : goal.redefined_among-requires-clause-stand
redefined_among-requires-clause-stand c =
    let before = c.args.before.now in
    let after = c.args.after.now in
    (definitions before, definitions after, c.requires.count, card_stands c.args.source.now before c.args.card.now after _ c.requires.split (c.as_slice.ensures.value ∙ c.definitions.ensures))

pub returns-then-is_first_name-clause-cause : goal.returns-then-is_first_name-clause-cause
returns-then-is_first_name-clause-cause c =
    let cards = c.args.source.now in
    let before = c.args.before.now in
    let after = c.args.after.now in
    let items = definitions_on c.args.card.now.spec in
    let at : StandAt c.args.count items (definitions cards) = (definitions before, definitions after, c.requires.count, card_stands cards before c.args.card.now after items c.requires.split refl) in
    let none = alone_none cards (definitions cards) c.args.count c.is_first_name.result c.is_first_name.ensures c.if-is_first_name.true items at (sym c.definition_count.ensures ∙ c.if-definition_count-eq1.true) in
    sym (ap (λ ds. redefined_among cards ds items) (sym (taken_before cards before c.args.card.now after items c.args.count c.requires.split refl c.requires.count)) ∙ none)

pub returns-then-is_first_name-clause-rule : goal.returns-then-is_first_name-clause-rule
returns-then-is_first_name-clause-rule c =
    let cards = c.args.source.now in
    let before = c.args.before.now in
    let after = c.args.after.now in
    let items = definitions_on c.args.card.now.spec in
    let at : StandAt c.args.count items (definitions cards) = (definitions before, definitions after, c.requires.count, card_stands cards before c.args.card.now after items c.requires.split refl) in
    let kept = alone_keeps cards (definitions cards) c.args.count c.is_first_name.result c.is_first_name.ensures c.if-is_first_name.true items at (sym c.definition_count.ensures ∙ c.if-definition_count-eq1.true) in
    sym (ap (λ ds. redefine ds items) (sym (taken_before cards before c.args.card.now after items c.args.count c.requires.split refl c.requires.count)) ∙ kept)

pub returns-clause-cause : goal.returns-clause-cause
returns-clause-cause c =
    let cards = c.args.source.now in
    let before = c.args.before.now in
    let here = c.as_slice.ensures.value ∙ c.definitions.ensures in
    c.redefined_among.ensures.cause
    ∙ ap (λ ds. redefined_among cards ds c.as_slice.result.now) (taken_before cards before c.args.card.now c.args.after.now _ c.args.count c.requires.split here c.requires.count)
    ∙ ap (redefined_among cards (definitions before)) here

pub returns-clause-rule : goal.returns-clause-rule
returns-clause-rule c =
    let before = c.args.before.now in
    let here = c.as_slice.ensures.value ∙ c.definitions.ensures in
    c.redefined_among.ensures.rule
    ∙ ap (λ ds. redefine ds c.as_slice.result.now) (taken_before c.args.source.now before c.args.card.now c.args.after.now _ c.args.count c.requires.split here c.requires.count)
    ∙ ap (redefine (definitions before)) here
