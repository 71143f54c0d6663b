-- The fields of record types, by the control levels and match levels that they belong to.
use Rattle.std.specs.Prelude.{ℕ, ◌==◌, List, Bool, false, Option, is_some}
use Rattle.std.specs.List.{filter, filter_map, list_any}
use Rattle.std.specs.Option.{option_map_or}
use Rattle.rpg_cards.specs.Cards.{input_field_in, input_field_on}
use Rattle.rpg_cards.specs.declared.spec_card.SpecCard.{SpecCard}
use Rattle.rpg_sheet_specs.specs.declared.input.InputFieldSpec.{InputFieldSpec}
use Rattle.rpg_sheet_specs.specs.declared.input.InputSpec.{InputSpec}

-- ---- which level of a field is meant: a function of this type chooses it

-- the control level of an input field
abbrev pub control_level : InputFieldSpec → Option ℕ
control_level f = f.level

-- the match level of an input field
abbrev pub match_level : InputFieldSpec → Option ℕ
match_level f = f.match_level

-- ---- the fields on cards after a type

-- the input fields among I cards
abbrev pub input_fields : List InputSpec → List InputFieldSpec
input_fields specs = filter_map input_field_in specs

module _ (level_of : InputFieldSpec → Option ℕ) where
  -- the field has that level
  abbrev pub is_at : ℕ → InputFieldSpec → Bool
  is_at level f = option_map_or (λ l. l == level) (level_of f) false

  -- those with a level
  abbrev pub fields_with : List InputSpec → List InputFieldSpec
  fields_with specs = filter (λ f. is_some (level_of f)) (input_fields specs)

  -- those at one level
  abbrev pub fields_at : ℕ → List InputSpec → List InputFieldSpec
  fields_at level specs = filter (is_at level) (input_fields specs)

-- ---- match fields

-- the field has a match level
abbrev pub is_match_field : InputFieldSpec → Bool
is_match_field f = is_some f.match_level

-- the card has a match field
abbrev pub is_match_card : SpecCard → Bool
is_match_card c = option_map_or is_match_field (input_field_on c.spec) false

-- the source has match fields
abbrev pub has_match_field : List SpecCard → Bool
has_match_field cards = list_any is_match_card cards
