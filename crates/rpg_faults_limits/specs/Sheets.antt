-- What the groups of the cards before a card come to: of record types, and of lines.
use Rattle.std.specs.Option.{option_and_then}
use Rattle.std.specs.Prelude.{◌≡◌, ℕ, ◌+◌, ◌≤◌, true, List, length, Option, None, Some, is_some}
use Rattle.rpg_card_index.specs.Index.{first_file, is_file_named}
use Rattle.rpg_cards.specs.Groups.{Apart, Follower, Group, Heading, Role, file_of_group, group_count, input_role, open_group, output_role}
use Rattle.rpg_faults_limits.specs.declared.sheets.Groups.{Groups}
use Rattle.rpg_faults_limits.specs.declared.sheets.Sheets.{Sheets}
use Rattle.rpg_cards.specs.declared.spec_card.SpecCard.{SpecCard}
use Rattle.rpg_sheet_specs.specs.declared.input.InputSpec.{InputSpec}
use Rattle.rpg_sheet_specs.specs.declared.input.RecordType.{RecordType}
use Rattle.rpg_sheet_specs.specs.declared.output.OutputRecord.{OutputRecord}
use Rattle.rpg_sheet_specs.specs.declared.output.OutputSpec.{OutputSpec}
use Rattle.rpg_sheet_specs.specs.declared.spec.Spec.{Spec}

-- the place of the F card of a file
abbrev pub place_named : List SpecCard → Option (List ℕ) → Option ℕ
place_named cards name = option_and_then (λ n. first_file (is_file_named n) cards) name

-- what an open group comes to, and that there is one
pub record IsOpen (H F : Type 0) (cards : List SpecCard) (o : Option (Group H F)) (g : Groups) : Type 0 where
  pub is_open : g.is_open ≡ is_some o
  pub file : g.file ≡ place_named cards (file_of_group o)

-- what has been counted of the groups before a card: how many there are, and the open one
pub record HasGroups (H F : Type 0) (role : Spec → Role H F) (cards before : List SpecCard) (g : Groups) : Type 0 where
  pub number : g.number ≡ group_count role before
  pub last : IsOpen H F cards (open_group role before) g
  pub few : g.number ≤ length before

-- what has been counted of I and O cards before a card
pub record AreSheets (cards before : List SpecCard) (s : Sheets) : Type 0 where
  pub types : HasGroups RecordType InputSpec input_role cards before s.types
  pub lines : HasGroups OutputRecord OutputSpec output_role cards before s.lines

-- the place of the F card of the file with the name, or this place if there is no name
abbrev pub file_or : List SpecCard → Option (List ℕ) → Option ℕ → Option ℕ
file_or cards None place = place
file_or cards (Some name) place = first_file (is_file_named name) cards

-- what a card makes of them
abbrev pub with_role : {H F : Type 0} → List SpecCard → Role H F → Groups → Groups
with_role cards (Heading h name) g = record { number = g.number + 1; is_open = true; file = file_or cards name g.file }
with_role cards (Follower f) g = g
with_role cards Apart g = g
