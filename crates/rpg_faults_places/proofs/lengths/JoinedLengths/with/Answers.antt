use Rattle.std.proofs.Common.{◌≡◌, Option, None, Some, ap, List, ◌++◌, ◌∷◌, [], subst}
use Rattle.rpg_cards.specs.Cards.{input_on}
use Rattle.rpg_cards.specs.Groups.{input_card_role, role_on}
use Rattle.std.specs.Option.{option_map}
use Rattle.rpg_faults_places.specs.Lengths.{lengths_of}
use Rattle.rpg_faults_places.proofs.TypeLemmas.{with_apart, with_codes, with_field, with_type}
use Rattle.rpg_sheet_specs.specs.declared.input.InputFieldSpec.{InputFieldSpec}
use Rattle.rpg_sheet_specs.specs.declared.input.InputSpec.{InputSpec}
use Rattle.rpg_sheet_specs.specs.declared.input.InputSpec.TheVariants as input
use Rattle.rpg_sheet_specs.specs.declared.indicator.Three.{Three}
use Rattle.rpg_sheet_specs.specs.declared.input.RecordCode.{RecordCode}
use Rattle.rpg_sheet_specs.specs.declared.input.RecordType.{RecordType}
use Rattle.rpg_faults_places.proofs.lengths.JoinedLengths.with.Goals as goal

pub returns-in-Some-Type : goal.returns-in-Some-Type
returns-in-Some-Type c = λ before was.
    let t : RecordType = c.in-Some-Type.field-0-0 in
    let on : input_on c.args.card.now.spec ≡ Some (input.Type t) = cc in
    with_type before c.args.card.now c.args.after.now c.args.self was t c.with_type-first.result (ap (λ (o : Option InputSpec). role_on input_card_role o) on) c.with_type-first.ensures

pub returns-in-Some-Field : goal.returns-in-Some-Field
returns-in-Some-Field c = λ before was.
    let f : InputFieldSpec = c.in-Some-Field.field in
    let on : input_on c.args.card.now.spec ≡ Some (input.Field f) = cc in
    with_field before c.args.card.now c.args.after.now c.args.self was f c.with_field.result (ap (λ (o : Option InputSpec). role_on input_card_role o) on)
    (subst (λ (g : InputFieldSpec). (specs : Option (List InputSpec)) → c.args.self.open_type ≡ option_map lengths_of specs → c.with_field.result ≡ option_map (λ fs. lengths_of (fs ++ input.Field g ∷ [])) specs) c.in-Some-Field.field-is c.with_field.ensures)

pub returns-in-Some-And : goal.returns-in-Some-And
returns-in-Some-And c = λ before was.
    let codes : Three (Option RecordCode) = c.in-Some-And.field-0-0 in
    let on : input_on c.args.card.now.spec ≡ Some (input.And codes) = cc in
    with_codes before c.args.card.now c.args.after.now c.args.self was codes (ap (λ (o : Option InputSpec). role_on input_card_role o) on)

pub returns-in-None : goal.returns-in-None
returns-in-None c = λ before was.
    let on : input_on c.args.card.now.spec ≡ None = cc in
    with_apart before c.args.card.now c.args.after.now c.args.self was (ap (λ (o : Option InputSpec). role_on input_card_role o) on)
