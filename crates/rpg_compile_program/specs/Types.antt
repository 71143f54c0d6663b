-- Record types, from the groups of I cards, by names.
use Rattle.std.specs.Prelude.{ℕ, ◌++◌, List, [], ◌∷◌, map, Option, is_some}
use Rattle.std.specs.List.{filter_map, flat_map}
use Rattle.std.specs.Option.{option_map, option_map_or}
use Rattle.rpg_cards.specs.Statements.{shows_of}
use Rattle.rpg_cards.specs.Keys.{Key, Named}
use Rattle.rpg_cards.specs.Cards.{input_field_in}
use Rattle.rpg_cards.specs.Files.{file_by, file_use}
use Rattle.rpg_cards.specs.Groups.{Group, groups, input_role}
use Rattle.rpg_cards.specs.Levels.{control_level, match_level}
use Rattle.rpg_cards.specs.declared.files.FileUse.{FileUse}
use Rattle.rpg_cards.specs.declared.files.FileUse.TheVariants as uses
use Rattle.rpg_cards.specs.declared.spec_card.SpecCard.{SpecCard}
use Rattle.rpg_program.specs.Input.{TypeRow}
use Rattle.rpg_program.specs.declared.input.ControlField.{ControlField}
use Rattle.rpg_program.specs.declared.input.InputField as row
use Rattle.rpg_program.specs.declared.input.InputFile.{InputFile}
use Rattle.rpg_program.specs.declared.input.InputFile.TheVariants.{Primary, Secondary}
use Rattle.rpg_program.specs.declared.input.RecordCode as row_code
use Rattle.rpg_sheet_specs.specs.declared.file.FileSpec.{FileSpec}
use Rattle.rpg_sheet_specs.specs.declared.indicator.Three.{Three}
use Rattle.rpg_sheet_specs.specs.declared.input.InputFieldSpec.{InputFieldSpec}
use Rattle.rpg_sheet_specs.specs.declared.input.InputSpec.{InputSpec}
use Rattle.rpg_sheet_specs.specs.declared.input.InputSpec.TheVariants as input
use Rattle.rpg_sheet_specs.specs.declared.input.RecordCode.{RecordCode}
use Rattle.rpg_sheet_specs.specs.declared.input.RecordType.{RecordType}

-- ---- files

-- the file that records are read from; the primary one if it isn't known
abbrev pub file_read : FileUse → InputFile
file_read uses.Primary = Primary
file_read uses.Secondary = Secondary
file_read _ = Primary

-- the file of a record type, by the F card that it names
abbrev pub input_file : Option FileSpec → InputFile
input_file file = option_map_or (λ f. file_read (file_use f)) file Primary

-- ---- record codes

-- the row of a record code
abbrev pub record_code_of : RecordCode → row_code.RecordCode
record_code_of c = record { position = c.position; is_negated = c.negated; character = c.character }

-- those that are present, in the order of the columns
abbrev pub codes_of : Three (Option RecordCode) → List row_code.RecordCode
codes_of t = map record_code_of (filter_map (λ c. c) (t.first ∷ t.second ∷ t.third ∷ []))

-- those of an AND card
abbrev pub and_card_codes : InputSpec → List row_code.RecordCode
and_card_codes (input.Type t) = []
and_card_codes (input.And cs) = codes_of cs
and_card_codes (input.Field f) = []

-- ---- fields

-- numeric if column 52 is filled
abbrev pub control_field : InputFieldSpec → ℕ → ControlField
control_field f level = record { level = level; is_numeric = is_some f.decimals; from = f.from; to = f.to }

-- if the field has a level of that choice
module _ (level_of : InputFieldSpec → Option ℕ) where
  -- the columns of an input field, at its level
  abbrev pub field_at_level : InputFieldSpec → Option ControlField
  field_at_level f = option_map (control_field f) (level_of f)

-- an input field as a control field, if it has a control level
abbrev pub control_field_of : InputFieldSpec → Option ControlField
control_field_of f = field_at_level control_level f

-- an input field as a match field, if it has a match level
abbrev pub match_field_of : InputFieldSpec → Option ControlField
match_field_of f = field_at_level match_level f

-- the row of an input field, by names
abbrev pub input_row : InputFieldSpec → row.InputField Key
input_row f = record { from = f.from; to = f.to; field = Named f.name; shows = shows_of f.indicators }

-- ---- types

-- the fields of a record type's cards
abbrev pub input_fields_in : List InputSpec → List InputFieldSpec
input_fields_in cards = filter_map input_field_in cards

-- a type of that file
abbrev pub type_of_file : InputFile → Group RecordType InputSpec → TypeRow Key
type_of_file file g = record {
  file = file;
  indicator = g.heading.indicator;
  codes = codes_of g.heading.codes ++ flat_map and_card_codes g.followers;
  levels = filter_map control_field_of (input_fields_in g.followers);
  inputs = map input_row (input_fields_in g.followers);
  matches = filter_map match_field_of (input_fields_in g.followers);
}

-- the row of a record type, by names: its card, with its AND and field cards
abbrev pub card_type : List SpecCard → Group RecordType InputSpec → TypeRow Key
card_type cards g = type_of_file (input_file (file_by g.file cards)) g

-- the record types of a source, by names
abbrev pub types_on : List SpecCard → List (TypeRow Key)
types_on cards = map (card_type cards) (groups input_role cards)
