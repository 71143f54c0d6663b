use Rattle.std.proofs.Common.{◌≡◌, ◌∙◌, arith, ap, length, subst, sym}
use Rattle.std.specs.Prelude.{slice_get}
use Rattle.rpg_card_index.proofs.PlaceLemmas.{stand_within, stands}
use Rattle.rpg_card_index.specs.Index.{StandAt}
use Rattle.rpg_cards.specs.Names.{definitions, definitions_on}
use Rattle.rpg_compile_program.proofs.names.FieldRows.add_names_on.Goals as goal

pub add_name_if_first-requires-clause-stands : goal.add_name_if_first-requires-clause-stands
add_name_if_first-requires-clause-stands c =
    let all = definitions c.args.source.now in
    let xs = c.as_slice-definition-items.result.now in
    let same : xs ≡ definitions_on c.args.card.now.spec = c.as_slice-definition-items.ensures.value ∙ c.definitions-definitions.ensures in
    ap (slice_get all) c.loop-definition.invariant.place
    ∙ stands all xs c.args.start c.loop-definition.definition-index c.definition-item.result (subst (λ ys. StandAt c.args.start ys all) (sym same) c.requires.stand) c.loop-definition-test.true c.definition-item.is

pub overflow_add-place : goal.overflow_add-place
overflow_add-place c =
    let all = definitions c.args.source.now in
    let within = stand_within all (definitions_on c.args.card.now.spec) c.args.start c.requires.stand in
    let here = ap length (c.as_slice-definition-items.ensures.value ∙ c.definitions-definitions.ensures) in
    omega (arith, c.keeps_limit.ensures.definitions, c.loop-definition.invariant.place, c.loop-definition-test.true)

pub loop-definition-preserved : goal.loop-definition-preserved
loop-definition-preserved c =
    let was = c.loop-definition.invariant.place in
    record { place = omega arith; added = λ before. c.in_ok-add_name_if_first.ensures (c.loop-definition.invariant.added before) }
