-- What I cards mean: a record type is a type card with the AND cards and field cards that follow it, up to the next type card. Numbers are the
-- columns of an I card.
use Rattle.std.specs.Prelude.{ℕ, ◌++◌, List, [], ◌∷◌, map, Bool, false, Option, None, is_some, if◌then◌else◌}
use Rattle.std.specs.List.{filter_map, flat_map}
use Rattle.std.specs.Option.{option_and_then, option_map, option_map_or, option_or, option_to_list}
use Rattle.rpg_cards.specs.Cards.{input_field_on, input_on, type_on}
use Rattle.rpg_cards.specs.Keys.{Key, Named}
use Rattle.rpg_cards.specs.declared.spec_card.SpecCard.{SpecCard}
use Rattle.rpg_program.specs.Input.{TypeRow}
use Rattle.rpg_program.specs.declared.input.ControlField.{ControlField}
use Rattle.rpg_program.specs.declared.input.InputField as moved
use Rattle.rpg_program.specs.declared.input.InputFile.TheVariants.{Primary, Secondary}
use Rattle.rpg_program.specs.declared.input.RecordCode as tested
use Rattle.rpg_sheet_specs.specs.declared.input.InputFieldSpec.{InputFieldSpec}
use Rattle.rpg_sheet_specs.specs.declared.input.InputSpec.{InputSpec}
use Rattle.rpg_sheet_specs.specs.declared.input.InputSpec.TheVariants as input
use Rattle.rpg_sheet_specs.specs.declared.input.RecordCode.{RecordCode}
use Rattle.rpg_sheet_specs.specs.declared.input.RecordType.{RecordType}
use Rattle.rpg_sheet_specs.specs.declared.spec.Spec.{Spec}
use Rattle.rpg_meaning.specs.Sheets.Cards.{filled_values, cards_before}
use Rattle.rpg_meaning.specs.Sheets.Files.{is_secondary, the_file_named}

-- ---- record identification codes: 21-27, 28-34 and 35-41 of the type card and of its AND cards

-- a record code as the machine tests it
abbrev pub tested_for : RecordCode → tested.RecordCode
tested_for c = record { position = c.position; is_negated = c.negated; character = c.character }

-- those of an AND card
abbrev pub codes_in : InputSpec → List RecordCode
codes_in (input.Type t) = []
codes_in (input.And codes) = filled_values codes
codes_in (input.Field f) = []

-- the record codes on a card
abbrev pub codes_on : SpecCard → List RecordCode
codes_on c = option_map_or codes_in (input_on c.spec) []

-- ---- fields

-- the columns 44-47 to 48-51 of the record are moved to the field 53-58; 65-66 turns on if it is plus, 67-68 minus, 69-70 zero or blank
abbrev pub move_of : InputFieldSpec → moved.InputField Key
move_of f = record {
  from = f.from;
  to = f.to;
  field = Named f.name;
  shows = record { plus = f.indicators.first; minus = f.indicators.second; zero = f.indicators.third };
}

-- a control or match field of that level; it is numeric if 52 is filled
abbrev pub part_of : InputFieldSpec → ℕ → ControlField
part_of f level = record { level = level; is_numeric = is_some f.decimals; from = f.from; to = f.to }

-- ---- record types

-- the card begins a record type
abbrev pub begins_type : Spec → Bool
begins_type s = is_some (type_on s)

-- its file is a secondary one
abbrev pub is_from_secondary : Option (List ℕ) → List SpecCard → Bool
is_from_secondary name cards = option_map_or is_secondary (the_file_named name cards) false

-- 7-14: the file's name, or blank for the file of the previous type
abbrev pub meant_type_file : Option (List ℕ) → Option RecordType → Option (List ℕ)
meant_type_file before t = option_or (option_and_then (λ t. t.file) t) before

module _ (all : List SpecCard) where
  -- from its file's name, its type card, its codes and its field cards
  abbrev pub meant_type : Option (List ℕ) → RecordType → List RecordCode → List InputFieldSpec → TypeRow Key
  meant_type name t codes fields = record {
    file = if is_from_secondary name all then Secondary else Primary;
    indicator = t.indicator;  -- 19-20
    codes = map tested_for codes;
    levels = filter_map (λ f. option_map (part_of f) f.level) fields;  -- 59-60
    inputs = map move_of fields;
    matches = filter_map (λ f. option_map (part_of f) f.match_level) fields;  -- 61-62
  }

  -- a type card with the cards that belong to it
  abbrev pub type_with : Option (List ℕ) → List SpecCard → RecordType → TypeRow Key
  type_with name own t = meant_type name t (filled_values t.codes ++ flat_map codes_on own) (filter_map (λ c. input_field_on c.spec) own)

  -- the types of these cards, after a type of that file
  abbrev pub types_after : Option (List ℕ) → List SpecCard → List (TypeRow Key)
  types_after name [] = []
  types_after name (c ∷ cs) = let file = meant_type_file name (type_on c.spec) in option_to_list (option_map (type_with file (cards_before begins_type cs)) (type_on c.spec)) ++ types_after file cs

-- the record types of a source, in the order of their cards
abbrev pub meant_types : List SpecCard → List (TypeRow Key)
meant_types cards = types_after cards None cards
