use Rattle.std.proofs.Common.{◌≡◌, Some, sym}
use Rattle.rpg_cards.specs.Cards.{input_on}
use Rattle.rpg_faults_places.proofs.JoinedLemmas.{at_end, at_type}
use Rattle.rpg_sheet_specs.specs.declared.input.InputSpec.TheVariants as input
use Rattle.rpg_sheet_specs.specs.declared.input.RecordType.{RecordType}
use Rattle.rpg_faults_places.proofs.columns.has_level.Goals as goal

pub returns-in-Some-Type : goal.returns-in-Some-Type
returns-in-Some-Type c =
    let t : RecordType = c.in-Some-Type.field-0-0 in
    let on : input_on c.card-item.result.spec ≡ Some (input.Type t) = cc in
    sym (at_type c.args.after.now c.loop-card.card-index c.loop-card.invariant c.card-item.result t c.loop-card-test.true c.card-item.is on)

pub returns : goal.returns
returns c = sym (at_end c.args.after.now c.loop-card.card-index c.loop-card.invariant c.loop-card-test.false)
