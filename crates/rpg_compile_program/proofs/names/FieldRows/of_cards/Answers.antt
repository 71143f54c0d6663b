use Rattle.std.proofs.Common.{◌≡◌, ◌∙◌, arith, ap, length, subst, take}
use Rattle.std.proofs.Math.Seq.{take-length}
use Rattle.std.proofs.lemmas.List.{take_all}
use Rattle.rpg_card_index.specs.Index.{StandAt}
use Rattle.rpg_cards.proofs.ItemLemmas.{definitions-append, definitions-take}
use Rattle.rpg_cards.specs.Names.{definitions, definitions_on}
use Rattle.rpg_card_index.proofs.PlaceLemmas.{card_stands, next_place}
use Rattle.rpg_compile_program.specs.Names.{AreFieldsOf}
use Rattle.rpg_compile_program.specs.Table.{with_definitions}
use Rattle.rpg_symbols.specs.Fields.{given}
use Rattle.rpg_compile_program.proofs.names.FieldRows.of_cards.Goals as goal

pub add_names_on-requires-clause-stand : goal.add_names_on-requires-clause-stand
add_names_on-requires-clause-stand c =
    let cards = c.as_slice-card-items.result.now in
    let place = c.loop-card.place in
    let card = c.card-item.result in
    subst (λ cs. StandAt place (definitions_on card.spec) (definitions cs)) c.as_slice-card-items.ensures
    (card_stands (λ c. definitions_on c.spec) definitions definitions-append definitions-take cards c.loop-card.card-index place card c.loop-card-test.true c.card-item.is c.loop-card.invariant.place)

pub loop-card-preserved : goal.loop-card-preserved
loop-card-preserved c =
    let cards = c.as_slice-card-items.result.now in
    record {
      place = c.in_ok-place.ensures.place ∙ next_place (λ c. definitions_on c.spec) definitions definitions-append definitions-take cards c.loop-card.card-index c.loop-card.place c.card-item.result c.loop-card-test.true c.card-item.is c.loop-card.invariant.place;
      fields = c.in_ok-place.ensures.added c.loop-card.invariant.fields;
    }

pub returns : goal.returns
returns c =
    let cards = c.as_slice-card-items.result.now in
    let all = definitions c.args.source.now in
    let whole : take c.loop-card.card-index cards ≡ c.args.source.now = take_all c.loop-card.card-index cards (omega arith) ∙ c.as_slice-card-items.ensures in
    let at : c.loop-card.place ≡ length all = c.loop-card.invariant.place ∙ ap (λ cs. length (definitions cs)) whole in
    subst (λ ds. AreFieldsOf c.args.loaded.now (with_definitions given ds) c.loop-card.fields) (ap (λ n. take n all) at ∙ take-length all) c.loop-card.invariant.fields
