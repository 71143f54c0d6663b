-- The file of an I or O card.
use Rattle.std.specs.Prelude.{ℕ, List, Option}
use Rattle.std.specs.Option.{option_and_then, option_map_or}
use Rattle.rpg_cards.specs.Cards.{input_on}
use Rattle.rpg_cards.specs.Groups.{open_file, output_role}
use Rattle.rpg_cards.specs.declared.spec_card.SpecCard.{SpecCard}
use Rattle.rpg_faults_limits.specs.FileCauses.{file_of_name}
use Rattle.rpg_faults_limits.specs.declared.files.FileOnCard.{FileOnCard}
use Rattle.rpg_faults_limits.specs.Sheets.{file_or}
use Rattle.rpg_faults_limits.specs.declared.sheets.Sheets.{Sheets}
use Rattle.rpg_faults_places.specs.Places.{own_file}
use Rattle.rpg_sheet_specs.specs.declared.input.InputSpec.{InputSpec}
use Rattle.rpg_sheet_specs.specs.declared.input.InputSpec.TheVariants as input

-- its name: that of its record type, or of its line
abbrev pub file_name : List SpecCard → SpecCard → Option (List ℕ)
file_name before c = option_map_or (own_file before) (input_on c.spec) (open_file output_role before)

-- the first file of that name, with its F card
abbrev pub card_file : List SpecCard → List SpecCard → SpecCard → Option FileOnCard
card_file cards before c = option_and_then (λ n. file_of_name n cards) (file_name before c)

-- the place of that F card, by the places of those of the open type and line
abbrev pub place_of_input : List SpecCard → Sheets → InputSpec → Option ℕ
place_of_input cards s (input.Type t) = file_or cards t.file s.types.file
place_of_input cards s (input.And codes) = s.types.file
place_of_input cards s (input.Field f) = s.types.file

abbrev pub place_on : List SpecCard → Sheets → SpecCard → Option ℕ
place_on cards s c = option_map_or (place_of_input cards s) (input_on c.spec) s.lines.file
