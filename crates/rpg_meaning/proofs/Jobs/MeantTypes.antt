-- The compiler takes from I cards the record types that the cards mean.
use Rattle.std.proofs.Common.{◌≡◌, ℕ, List, [], ◌∷◌, ◌++◌, map, Option, None, refl, sym, ap, ◌∙◌}
use Rattle.std.specs.List.{filter_map, flat_map}
use Rattle.std.specs.Option.{option_map, option_or, option_to_list}
use Rattle.rpg_cards.specs.Cards.{input_field_in, input_field_on, type_on}
use Rattle.rpg_cards.specs.Groups.{followers, followers_with, groups_from, input_role, opening}
use Rattle.rpg_cards.specs.declared.spec_card.SpecCard.{SpecCard}
use Rattle.rpg_sheet_specs.specs.declared.indicator.Three.{Three}
use Rattle.rpg_sheet_specs.specs.declared.input.InputSpec.TheVariants as input
use Rattle.rpg_sheet_specs.specs.declared.input.RecordCode.{RecordCode}
use Rattle.rpg_sheet_specs.specs.declared.input.RecordType.{RecordType}
use Rattle.rpg_sheet_specs.specs.declared.spec.Spec.{Spec}
use Rattle.rpg_sheet_specs.specs.declared.spec.Spec.TheVariants as spec
use Rattle.rpg_compile_program.specs.Types.{and_card_codes, card_type, codes_of, control_field_of, input_row, match_field_of, types_on}
use Rattle.rpg_meaning.specs.Sheets.Cards.{filled_values, cards_before}
use Rattle.rpg_meaning.specs.Sheets.RecordTypes.{tested_for, begins_type, codes_on, meant_type_file, types_after, type_with, meant_types}
use Rattle.rpg_meaning.proofs.Calculations.MeantFiles.{read_from_is_meant}
use Rattle.rpg_meaning.proofs.Calculations.MeantLists.{filled_is_meant, map_append}

codes_three : (t : Three (Option RecordCode)) → codes_of t ≡ map tested_for (filled_values t)
codes_three t = ap (map tested_for) (filled_is_meant t.first t.second t.third)

fields_are_meant : (cs : List SpecCard) → filter_map input_field_in (followers input_role cs) ≡ filter_map (λ c. input_field_on c.spec) (cards_before begins_type cs)
fields_are_meant [] = refl
fields_are_meant (c ∷ cs) = by c.spec (fields_are_meant cs)
  where
    by : (s : Spec) → (filter_map input_field_in (followers input_role cs) ≡ filter_map (λ c. input_field_on c.spec) (cards_before begins_type cs)) → filter_map input_field_in (followers_with (input_role s) (followers input_role cs)) ≡ filter_map (λ c. input_field_on c.spec) (cards_before begins_type (record { number = c.number; spec = s } ∷ cs))
    by (spec.Header x) rest = rest
    by (spec.File x) rest = rest
    by (spec.Extension x) rest = rest
    by (spec.Form x) rest = rest
    by (spec.Input (input.Type t)) rest = refl
    by (spec.Input (input.And t)) rest = rest
    by (spec.Input (input.Field f)) rest = λ i. f ∷ rest i
    by (spec.Calculation x) rest = rest
    by (spec.Output x) rest = rest
    by (spec.Data x) rest = rest

codes_are_meant : (cs : List SpecCard) → flat_map and_card_codes (followers input_role cs) ≡ map tested_for (flat_map codes_on (cards_before begins_type cs))
codes_are_meant [] = refl
codes_are_meant (c ∷ cs) = by c.spec (codes_are_meant cs)
  where
    by : (s : Spec) → (flat_map and_card_codes (followers input_role cs) ≡ map tested_for (flat_map codes_on (cards_before begins_type cs))) → flat_map and_card_codes (followers_with (input_role s) (followers input_role cs)) ≡ map tested_for (flat_map codes_on (cards_before begins_type (record { number = c.number; spec = s } ∷ cs)))
    by (spec.Header x) rest = rest
    by (spec.File x) rest = rest
    by (spec.Extension x) rest = rest
    by (spec.Form x) rest = rest
    by (spec.Input (input.Type t)) rest = refl
    by (spec.Input (input.And t)) rest = (λ i. codes_three t i ++ rest i) ∙ sym (map_append tested_for (filled_values t) (flat_map codes_on (cards_before begins_type cs)))
    by (spec.Input (input.Field f)) rest = rest
    by (spec.Calculation x) rest = rest
    by (spec.Output x) rest = rest
    by (spec.Data x) rest = rest

module _ (deck : List SpecCard) where
  type_same : (name : Option (List ℕ)) (t : RecordType) (cs : List SpecCard)
      → card_type deck (record { heading = t; followers = followers input_role cs; file = name }) ≡ type_with deck name (cards_before begins_type cs) t
  type_same name t cs = λ i. record {
    file = read_from_is_meant deck name i;
    indicator = t.indicator;
    codes = ((λ j. codes_three t.codes j ++ codes_are_meant cs j) ∙ sym (map_append tested_for (filled_values t.codes) (flat_map codes_on (cards_before begins_type cs)))) i;
    levels = filter_map control_field_of (fields_are_meant cs i);
    inputs = map input_row (fields_are_meant cs i);
    matches = filter_map match_field_of (fields_are_meant cs i);
  }

  types_same : (name : Option (List ℕ)) (cs : List SpecCard) → map (card_type deck) (groups_from input_role name cs) ≡ types_after deck name cs
  types_same name [] = refl
  types_same name (c ∷ cs) = by c.spec (λ name. types_same name cs)
    where
      by : (s : Spec) → ((name : Option (List ℕ)) → map (card_type deck) (groups_from input_role name cs) ≡ types_after deck name cs) → map (card_type deck) (opening (input_role s) name (followers input_role cs) (λ own. groups_from input_role own cs))
          ≡ option_to_list (option_map (type_with deck (meant_type_file name (type_on s)) (cards_before begins_type cs)) (type_on s)) ++ types_after deck (meant_type_file name (type_on s)) cs
      by (spec.Header x) rest = rest name
      by (spec.File x) rest = rest name
      by (spec.Extension x) rest = rest name
      by (spec.Form x) rest = rest name
      by (spec.Input (input.Type t)) rest = λ i. type_same (option_or t.file name) t cs i ∷ rest (option_or t.file name) i
      by (spec.Input (input.And t)) rest = rest name
      by (spec.Input (input.Field f)) rest = rest name
      by (spec.Calculation x) rest = rest name
      by (spec.Output x) rest = rest name
      by (spec.Data x) rest = rest name

pub types_are_meant : (cards : List SpecCard) → types_on cards ≡ meant_types cards
types_are_meant cards = types_same cards None cards
