use Rattle.rpg_cards.proofs.ItemLemmas.{constants_in-push, definitions-push, few_constants, few_constants_on, few_definitions, few_definitions_on}
use Rattle.std.proofs.Common.{ap, arith, length, length-append}
use Rattle.rpg_cards.specs.Constants.{constants_in, constants_on}
use Rattle.rpg_cards.specs.Names.{definitions, definitions_on}
use Rattle.rpg_faults_limits.proofs.items.Items.with.Goals as goal

pub overflow_add-result : goal.overflow_add-result
overflow_add-result c =
    let few = few_definitions c.args.before.now in
    let here = few_definitions_on c.args.card.now.spec in
    omega (arith, c.requires.few, c.requires.items.names, c.definition_count.ensures)

pub overflow_add-result-2 : goal.overflow_add-result-2
overflow_add-result-2 c =
    let few = few_constants c.args.before.now in
    let here = few_constants_on c.args.card.now.spec in
    omega (arith, c.requires.few, c.requires.items.constants, c.constant_count.ensures)

pub returns : goal.returns
returns c =
    let before = c.args.before.now in
    let card = c.args.card.now in
    let defined = ap length (definitions-push before card) in
    let written = ap length (constants_in-push before card) in
    let names = length-append (definitions before) (definitions_on card.spec) in
    let constants = length-append (constants_in before) (constants_on card.spec) in
    let was = c.requires.items.names in
    let were = c.requires.items.constants in
    record { names = omega arith; constants = omega arith }
