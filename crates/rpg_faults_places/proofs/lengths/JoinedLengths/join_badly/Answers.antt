use Rattle.std.proofs.Common.{◌≡◌, ◌∙◌, ap, false, None, Some, sym, Option, ◌-◌, get_or}
use Rattle.std.specs.List.{list_any}
use Rattle.std.specs.Option.{option_map_or}
use Rattle.rpg_cards.specs.Cards.{input_on}
use Rattle.rpg_cards.specs.Groups.{Heading, followers, input_role, role_on, input_card_role}
use Rattle.rpg_faults_places.proofs.LevelLemmas.{any_at_levels}
use Rattle.rpg_faults_places.proofs.TypeLemmas.{first_before, first_lengths-before}
use Rattle.rpg_faults_places.specs.Places.{controls_badly, lengths_differ, level_length, levels}
use Rattle.rpg_sheet_specs.specs.declared.input.InputSpec.{InputSpec}
use Rattle.rpg_sheet_specs.specs.declared.input.InputSpec.TheVariants as input
use Rattle.rpg_sheet_specs.specs.declared.input.RecordType.{RecordType}
use Rattle.rpg_faults_places.proofs.lengths.JoinedLengths.join_badly.Goals as goal

pub returns-in-Some-Type : goal.returns-in-Some-Type
returns-in-Some-Type c = λ before was.
    let t : RecordType = c.in-Some-Type.field-0-0 in
    let on : input_on c.args.card.now.spec ≡ Some (input.Type t) = cc in
    let is : input_role c.args.card.now.spec ≡ Heading t t.file = ap (λ (o : Option InputSpec). role_on input_card_role o) on in
    c.differ_from.ensures
    ∙ ap (λ ls. list_any (λ level. lengths_differ (get_or ls (level - 1) None) (level_length level (followers input_role c.args.after.now))) levels) (was.first ∙ first_lengths-before before c.args.card.now c.args.after.now t is)
    ∙ any_at_levels (first_before before c.args.card.now c.args.after.now) (λ x level. lengths_differ x (level_length level (followers input_role c.args.after.now))) None
    ∙ sym (ap (λ (o : Option InputSpec). option_map_or (controls_badly before c.args.after.now) o false) on)
