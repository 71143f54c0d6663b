use Rattle.std.proofs.Common.{◌≡◌, ◌∙◌, ap, false, Some, sym, Option}
use Rattle.std.specs.Option.{option_map_or}
use Rattle.rpg_cards.specs.Cards.{input_on}
use Rattle.rpg_cards.specs.Groups.{Heading, followers, input_role, role_on, input_card_role}
use Rattle.rpg_faults_places.proofs.MatchLemmas.{first_is}
use Rattle.rpg_faults_places.specs.Places.{valid_matches, matched_fields, matches_badly, matches_differ}
use Rattle.rpg_sheet_specs.specs.declared.input.InputSpec.{InputSpec}
use Rattle.rpg_sheet_specs.specs.declared.input.InputSpec.TheVariants as input
use Rattle.rpg_sheet_specs.specs.declared.input.RecordType.{RecordType}
use Rattle.rpg_faults_places.proofs.matches.Matches.join_badly.Goals as goal

pub returns-in-Some-Type : goal.returns-in-Some-Type
returns-in-Some-Type c = λ before was.
    let t : RecordType = c.in-Some-Type.field-0-0 in
    let on : input_on c.args.card.now.spec ≡ Some (input.Type t) = cc in
    let is : input_role c.args.card.now.spec ≡ Heading t t.file = ap (λ (o : Option InputSpec). role_on input_card_role o) on in
    c.are_other.ensures ∙ ap (matches_differ c.args.self.now.first) c.valid_matches-own.ensures
    ∙ ap (λ o. matches_differ o (valid_matches (matched_fields (followers input_role c.args.after.now)))) (first_is before c.args.card.now c.args.after.now c.args.self.now was t is)
    ∙ sym (ap (λ (o : Option InputSpec). option_map_or (matches_badly before c.args.after.now) o false) on)
