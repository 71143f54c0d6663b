-- Types by their headings and the cards after them.
use Rattle.std.specs.Prelude.{ℕ, List, map, Option, None}
use Rattle.std.specs.List.{filter_map, flat_map}
use Rattle.rpg_cards.specs.Keys.{Key}
use Rattle.rpg_cards.specs.Groups.{followers, groups_from, input_role}
use Rattle.rpg_cards.specs.declared.spec_card.SpecCard.{SpecCard}
use Rattle.rpg_program.specs.Input.{TypeRow}
use Rattle.rpg_program.specs.declared.input.ControlField.{ControlField}
use Rattle.rpg_program.specs.declared.input.InputField as row
use Rattle.rpg_program.specs.declared.input.InputFile.{InputFile}
use Rattle.rpg_program.specs.declared.input.RecordCode.{RecordCode}
use Rattle.rpg_sheet_specs.specs.declared.input.InputFieldSpec.{InputFieldSpec}
use Rattle.rpg_sheet_specs.specs.declared.input.RecordType.{RecordType}
use Rattle.rpg_compile_program.specs.Types.{and_card_codes, card_type, field_at_level, input_fields_in, input_row, type_of_file}

-- those of the groups in these cards, if groups without a file are of the one of that name
abbrev pub types_from : List SpecCard → Option (List ℕ) → List SpecCard → List (TypeRow Key)
types_from source name cards = map (card_type source) (groups_from input_role name cards)

-- ---- a type by its heading and the cards after it

-- the record type that begins with a card, with the cards after it
abbrev pub type_following : InputFile → RecordType → List SpecCard → TypeRow Key
type_following file t cards = type_of_file file (record { heading = t; followers = followers input_role cards; file = None })

-- the record codes on the AND cards after a type
abbrev pub codes_after : List SpecCard → List RecordCode
codes_after cards = flat_map and_card_codes (followers input_role cards)

-- the fields on the cards after a type
abbrev pub fields_after : List SpecCard → List InputFieldSpec
fields_after cards = input_fields_in (followers input_role cards)

-- if they have a level of that choice
abbrev pub levels_after : (InputFieldSpec → Option ℕ) → List SpecCard → List ControlField
levels_after level_of cards = filter_map (field_at_level level_of) (fields_after cards)

-- the input fields of a program, from the cards after a type
abbrev pub inputs_after : List SpecCard → List (row.InputField Key)
inputs_after cards = map input_row (fields_after cards)
