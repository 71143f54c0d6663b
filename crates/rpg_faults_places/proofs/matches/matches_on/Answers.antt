use Rattle.std.proofs.Common.{◌≡◌, ◌∙◌, ◌∷◌, ◌++◌, [], Option, Some, ap, append_assoc, subst, sym}
use Rattle.rpg_cards.specs.Cards.{input_on}
use Rattle.rpg_cards.specs.Groups.{input_card_role, role_on}
use Rattle.rpg_faults_places.proofs.MatchLemmas.{matched, matched_field}
use Rattle.rpg_faults_places.specs.Matches.{AreValid, AreWith}
use Rattle.rpg_faults_places.specs.Places.{valid_matches, input_columns}
use Rattle.rpg_sheet_specs.specs.declared.input.InputFieldSpec.{InputFieldSpec}
use Rattle.rpg_sheet_specs.specs.declared.input.InputSpec.{InputSpec}
use Rattle.rpg_sheet_specs.specs.declared.input.InputSpec.TheVariants as input
use Rattle.rpg_faults_places.proofs.matches.matches_on.Goals as goal

pub returns-in-Some-lengths_with : goal.returns-in-Some-lengths_with
returns-in-Some-lengths_with c = λ fs valid.
    let card = c.args.card.now in
    let f : InputFieldSpec = c.in-Some-Field.field in
    let on : input_on card.spec ≡ Some (input.Field f) = cc in
    let at : f.match_level ≡ Some c.number.result = cc (c.number.ensures.value, c.in-Some.is) in
    let columns : c.columns_of.result ≡ input_columns f = subst (λ (g : InputFieldSpec). c.columns_of.result ≡ input_columns g) c.in-Some-Field.field-is c.columns_of.ensures in
    let with : AreWith fs f c.lengths_with.result = c.lengths_with.ensures fs f valid at columns in
    let more : AreValid (fs ++ f ∷ []) (Some c.in-Some-lengths_with.lengths) = subst (λ o. AreWith fs f o) c.in-Some-lengths_with.is with in (
      fs ++ f ∷ [],
      more,
      λ rest.
          ap valid_matches (append_assoc fs (f ∷ []) (matched rest))
          ∙ ap valid_matches (sym (matched_field fs card rest f c.number.result (ap (λ (o : Option InputSpec). role_on input_card_role o) on) at)),
    )
