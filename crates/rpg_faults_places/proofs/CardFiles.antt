-- The file of an I or O card, by the place of its F card.
use Rattle.std.proofs.Common.{◌≡◌, List, Option, None, Some}
use Rattle.std.specs.Option.{option_map_or}
use Rattle.rpg_cards.specs.Cards.{input_on}
use Rattle.rpg_cards.specs.Groups.{input_role, open_file, output_role}
use Rattle.rpg_cards.specs.declared.spec_card.SpecCard.{SpecCard}
use Rattle.rpg_faults_limits.proofs.FileLemmas.{placed_by}
use Rattle.rpg_faults_limits.proofs.SheetLemmas.{file_or_is}
use Rattle.rpg_faults_limits.specs.FileCauses.{placed_file}
use Rattle.rpg_faults_limits.specs.Sheets.{AreSheets, place_named}
use Rattle.rpg_faults_limits.specs.declared.sheets.Sheets.{Sheets}
use Rattle.rpg_faults_places.specs.CardFiles.{card_file, file_name, place_of_input, place_on}
use Rattle.rpg_faults_places.specs.Places.{own_file}
use Rattle.rpg_sheet_specs.specs.declared.input.InputSpec.{InputSpec}
use Rattle.rpg_sheet_specs.specs.declared.input.InputSpec.TheVariants as input

pub card_file_is : (cards before : List SpecCard) (c : SpecCard) (s : Sheets) → AreSheets cards before s → placed_file cards (place_on cards s c) ≡ card_file cards before c
card_file_is cards before c s are = placed_by (file_name before c) cards (place_on cards s c) (by (input_on c.spec))
  where
    by : (o : Option InputSpec) → option_map_or (place_of_input cards s) o s.lines.file ≡ place_named cards (option_map_or (own_file before) o (open_file output_role before))
    by None = are.lines.last.file
    by (Some (input.Type t)) = file_or_is cards t.file (open_file input_role before) s.types.file are.types.last.file
    by (Some (input.And codes)) = are.types.last.file
    by (Some (input.Field f)) = are.types.last.file
