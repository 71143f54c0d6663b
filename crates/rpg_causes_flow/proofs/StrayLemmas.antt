-- F12 of I and O cards: there is a cause exactly if the rule is broken.
use Rattle.std.proofs.Common.{◌≡◌, false, ◌||◌, List, Option, None, Some, refl, ap, ◌∙◌}
use Rattle.std.specs.Option.{option_and_then, option_map_or}
use Rattle.std.specs.Prelude.{is_some}
use Rattle.rpg_cards.specs.Cards.{input_on, output_on}
use Rattle.rpg_cards.specs.Groups.{input_role, open_group, output_role}
use Rattle.rpg_cards.specs.declared.spec_card.SpecCard.{SpecCard}
use Rattle.rpg_causes_flow.proofs.Options.{some_or, unless, unless_some}
use Rattle.rpg_causes_flow.specs.Strays.{card_number_before, input_stray_cause, output_stray_cause, stray_cause}
use Rattle.rpg_causes_flow.specs.declared.strays.StrayCause.TheVariants.{NoLine, NoType, OtherThanLine, OtherThanType}
use Rattle.rpg_faults_flow.specs.Strays.{follows_codes, follows_conditions, is_stray, is_stray_input, is_stray_output}
use Rattle.rpg_sheet_specs.specs.declared.input.InputSpec.{InputSpec}
use Rattle.rpg_sheet_specs.specs.declared.input.InputSpec.TheVariants as input
use Rattle.rpg_sheet_specs.specs.declared.output.OutputSpec.{OutputSpec}
use Rattle.rpg_sheet_specs.specs.declared.output.OutputSpec.TheVariants as output

module _ (before : List SpecCard) where
  input_is : (o : Option InputSpec) → is_some (option_and_then (input_stray_cause (is_some (open_group input_role before)) before) o) ≡ option_map_or (is_stray_input before) o false
  input_is None = refl
  input_is (Some (input.Type t)) = refl
  input_is (Some (input.And codes)) = unless (OtherThanType (card_number_before before)) (follows_codes before)
  input_is (Some (input.Field f)) = unless_some NoType (open_group input_role before)

  output_is : (o : Option OutputSpec) → is_some (option_and_then (output_stray_cause (is_some (open_group output_role before)) before) o) ≡ option_map_or (is_stray_output before) o false
  output_is None = refl
  output_is (Some (output.Record r)) = refl
  output_is (Some (output.And t)) = unless (OtherThanLine (card_number_before before)) (follows_conditions before)
  output_is (Some (output.Or t)) = unless (OtherThanLine (card_number_before before)) (follows_conditions before)
  output_is (Some (output.Field f)) = unless_some NoLine (open_group output_role before)

  pub stray_rule : (c : SpecCard) → is_some (stray_cause before c) ≡ is_stray before c
  stray_rule c =
      some_or (option_and_then (input_stray_cause (is_some (open_group input_role before)) before) (input_on c.spec)) (option_and_then (output_stray_cause (is_some (open_group output_role before)) before) (output_on c.spec))
      ∙ ap (λ b. b || is_some (option_and_then (output_stray_cause (is_some (open_group output_role before)) before) (output_on c.spec))) (input_is (input_on c.spec))
      ∙ ap (λ b. option_map_or (is_stray_input before) (input_on c.spec) false || b) (output_is (output_on c.spec))
