use Rattle.std.proofs.Common.{◌≡◌, Some}
use Rattle.rpg_cards.specs.Cards.{input_on}
use Rattle.rpg_compile_layouts.proofs.Followers.{codes_more}
use Rattle.rpg_compile_layouts.proofs.codes.push_further.Goals as goal
use Rattle.rpg_sheet_specs.specs.declared.input.InputSpec.TheVariants as input

pub loop-card-preserved : goal.loop-card-preserved
loop-card-preserved c =
    let cards = c.args.following.now in
    let i = c.loop-card.card-index in
    let card = c.card-item.result in
    let further = c.in-Some-And.further in
    let read = c.in-Some-And.ensures in
    let same = c.in-Some-And.field-0-is in
    let here = c.in-Some-And.further-is in
    let on : Some (input.And further) ≡ input_on card.spec = cc in
    record {
      so_far = codes_more cards i card further c.loop-card.codes.items c.push_codes.new.codes.items _ c.loop-card-test.true c.card-item.is on c.in_ok-push_codes.ensures.codes c.loop-card.invariant.so_far;
      rows = c.in_ok-push_codes.ensures.kept;
    }
