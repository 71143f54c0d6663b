use Rattle.std.proofs.Common.{◌≡◌, Some}
use Rattle.rpg_cards.specs.Cards.{input_on}
use Rattle.rpg_cards.specs.Levels.{control_level, match_level}
use Rattle.rpg_compile_layouts.proofs.Followers.{levels_more}
use Rattle.rpg_compile_layouts.proofs.levels.levels_of.Goals as goal
use Rattle.rpg_sheet_specs.specs.declared.input.InputSpec.TheVariants as input

pub loop-card-preserved : goal.loop-card-preserved
loop-card-preserved c =
    let cards = c.args.following.now in
    let i = c.loop-card.card-index in
    let card = c.card-item.result in
    let field = c.in-Some-Field.field in
    let read = c.in-Some-Field.ensures in
    let same = c.in-Some-Field.field-0-is in
    let here = c.in-Some-Field.field-is in
    let on : Some (input.Field field) ≡ input_on card.spec = cc in
    record {
      levels = levels_more control_level cards i card field c.level_of.result c.loop-card.levels.items c.push_level.new.levels.items _ c.loop-card-test.true c.card-item.is on c.level_of.ensures.value c.in_ok-push_level.ensures.levels c.loop-card.invariant.levels;
      matches = levels_more match_level cards i card field c.match_of.result c.loop-card.matches.items c.push_level-in-loop-card.new.levels.items _ c.loop-card-test.true c.card-item.is on c.match_of.ensures.value c.in_ok-push_level-2.ensures.levels c.loop-card.invariant.matches;
      level_rows = c.in_ok-push_level.ensures.kept;
      match_rows = c.in_ok-push_level-2.ensures.kept;
    }
