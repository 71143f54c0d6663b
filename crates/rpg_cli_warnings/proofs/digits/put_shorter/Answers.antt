use Rattle.std.proofs.Common.{◌+◌, ◌++◌, ◌∙◌, Option, ap, arith, drop, subst}
use Rattle.std.specs.List.{filter_map}
use Rattle.std.specs.Option.{option_to_list}
use Rattle.rpg_card_index.proofs.PlaceLemmas.{card_stands, next_place, stand_within}
use Rattle.rpg_card_index.specs.Index.{StandAt}
use Rattle.rpg_cards.proofs.ItemLemmas.{definitions-append, definitions-take}
use Rattle.rpg_cards.specs.Names.{definitions, definitions_on}
use Rattle.rpg_cli_warnings.proofs.FirstForms.{one_more_of}
use Rattle.rpg_cli_warnings.specs.Digits.{shorter_on}
use Rattle.rpg_warnings_lines.specs.declared.warning.Warning.{Warning}
use Rattle.rpg_cli_warnings.proofs.digits.put_shorter.Goals as goal

pub shorter_on-requires : goal.shorter_on-requires
shorter_on-requires c =
    let cards = c.as_slice-card-items.result.now in
    let place = c.loop-card.place in
    let card = c.card-item.result in
    subst (λ cs. StandAt place (definitions_on card.spec) (definitions cs)) c.as_slice-card-items.ensures
    (card_stands (λ c. definitions_on c.spec) definitions definitions-append definitions-take cards c.loop-card.card-index place card c.loop-card-test.true c.card-item.is c.loop-card.invariant.place)

pub overflow_add-place : goal.overflow_add-place
overflow_add-place c =
    let cards = c.as_slice-card-items.result.now in
    let place = c.loop-card.place in
    let card = c.card-item.result in
    let stands = subst (λ cs. StandAt place (definitions_on card.spec) (definitions cs)) c.as_slice-card-items.ensures
    (card_stands (λ c. definitions_on c.spec) definitions definitions-append definitions-take cards c.loop-card.card-index place card c.loop-card-test.true c.card-item.is c.loop-card.invariant.place) in
    let within = stand_within (definitions c.args.source.now) (definitions_on card.spec) place stands in
    omega (arith, c.keeps_limit.ensures.definitions, c.definition_count-place.ensures)

pub loop-card-preserved : goal.loop-card-preserved
loop-card-preserved c =
    let cards = c.as_slice-card-items.result.now in
    record {
      place =
          ap (λ n. c.loop-card.place + n) c.definition_count-place.ensures
          ∙ next_place (λ c. definitions_on c.spec) definitions definitions-append definitions-take cards c.loop-card.card-index c.loop-card.place c.card-item.result c.loop-card-test.true c.card-item.is c.loop-card.invariant.place;
      so_far =
          ap (λ ws. ws ++ filter_map (shorter_on c.args.source.now) (drop (c.loop-card.card-index + 1) cards)) (c.in_ok-put_warning.ensures ∙ ap (λ (w : Option Warning). c.loop-card.warnings.items ++ option_to_list w) c.shorter_on.ensures)
          ∙ one_more_of (shorter_on c.args.source.now) cards c.loop-card.card-index c.card-item.result c.loop-card.warnings.items c.loop-card-test.true c.card-item.is ∙ c.loop-card.invariant.so_far;
    }
