-- Groups of cards: a heading with the cards that follow it, up to the next heading of its sheet.
use Rattle.std.specs.Prelude.{ℕ, List, [], ◌∷◌, ◌++◌, length, Option, None, Some, Bool, true, false}
use Rattle.std.specs.List.{last_or}
use Rattle.std.specs.Option.{option_and_then, option_map, option_or}
use Rattle.rpg_cards.specs.Cards.{input_on, output_on, data_on}
use Rattle.rpg_cards.specs.declared.spec_card.SpecCard.{SpecCard}
use Rattle.rpg_sheet_specs.specs.declared.calculation.ControlLevel.{ControlLevel}
use Rattle.rpg_sheet_specs.specs.declared.calculation.ControlLevel.TheVariants as control
use Rattle.rpg_sheet_specs.specs.declared.data.DataSpec.{DataSpec}
use Rattle.rpg_sheet_specs.specs.declared.data.DataSpec.TheVariants as deck
use Rattle.rpg_sheet_specs.specs.declared.input.InputSpec.{InputSpec}
use Rattle.rpg_sheet_specs.specs.declared.input.InputSpec.TheVariants as input
use Rattle.rpg_sheet_specs.specs.declared.input.RecordType.{RecordType}
use Rattle.rpg_sheet_specs.specs.declared.output.OutputSpec.{OutputSpec}
use Rattle.rpg_sheet_specs.specs.declared.output.OutputSpec.TheVariants as output
use Rattle.rpg_sheet_specs.specs.declared.output.OutputRecord.{OutputRecord}
use Rattle.rpg_sheet_specs.specs.declared.spec.Spec.{Spec}

-- the role of a card in the groups of a sheet: a heading with the file that it names, a follower, or neither
pub data Role (H F : Type 0) : Type 0 where
  Heading : H → Option (List ℕ) → Role H F
  Follower : F → Role H F
  Apart : Role H F

-- a group belongs to the file that its heading names, otherwise to that of the previous group
pub record Group (H F : Type 0) : Type 0 where
  pub heading : H
  pub followers : List F
  pub file : Option (List ℕ)

-- ---- from the front

-- the followers, with one more card before them
abbrev pub followers_with : {H F : Type 0} → Role H F → List F → List F
followers_with (Heading h name) fs = []
followers_with (Follower f) fs = f ∷ fs
followers_with Apart fs = fs

-- a heading opens a group with its followers, before the later groups, which are given the file
abbrev pub opening : {H F : Type 0} → Role H F → Option (List ℕ) → List F → (Option (List ℕ) → List (Group H F)) → List (Group H F)
opening (Heading h name) file fs following = record { heading = h; followers = fs; file = option_or name file } ∷ following (option_or name file)
opening (Follower f) file fs following = following file
opening Apart file fs following = following file

-- the file of a group: the one that its heading names, or the last one named before
abbrev pub file_of_group : {H F : Type 0} → Option (Group H F) → Option (List ℕ)
file_of_group o = option_and_then (λ g. g.file) o

module _ {H F : Type 0} (role : Spec → Role H F) where
  -- the first followers, up to the next heading; other cards are skipped
  abbrev pub followers : List SpecCard → List F
  followers [] = []
  followers (c ∷ cs) = followers_with (role c.spec) (followers cs)

  -- after a group of that file
  abbrev pub groups_from : Option (List ℕ) → List SpecCard → List (Group H F)
  groups_from file [] = []
  groups_from file (c ∷ cs) = opening (role c.spec) file (followers cs) (λ own. groups_from own cs)

  -- the groups of cards on one sheet
  abbrev pub groups : List SpecCard → List (Group H F)
  groups cards = groups_from None cards

  -- how many groups there are
  abbrev pub group_count : List SpecCard → ℕ
  group_count cards = length (groups cards)

  -- ---- the open group: the one that a further card would follow

  -- the group that a follower on the next card would belong to
  abbrev pub open_group : List SpecCard → Option (Group H F)
  open_group before = last_or None (groups before)

  -- the file of the open group
  abbrev pub open_file : List SpecCard → Option (List ℕ)
  open_file before = file_of_group (open_group before)

-- ---- one more card: it opens a group, follows the open one, or changes nothing

-- the group with more followers
abbrev pub with_followers : {H F : Type 0} → List F → Group H F → Group H F
with_followers fs g = record { heading = g.heading; followers = g.followers ++ fs; file = g.file }

-- the open group after a card: a heading begins one, and keeps the file if it names none
abbrev pub with_card : {H F : Type 0} → Option (Group H F) → Role H F → Option (Group H F)
with_card o (Heading h name) = Some (record { heading = h; followers = []; file = option_or name (file_of_group o) })
with_card o (Follower f) = option_map (with_followers (f ∷ [])) o
with_card o Apart = o

-- ---- the groups of the sheets

-- the role of a card on its sheet; cards of other sheets have none
abbrev pub role_on : {X H F : Type 0} → (X → Role H F) → Option X → Role H F
role_on role None = Apart
role_on role (Some x) = role x

-- a record type, its AND cards and its field cards
abbrev pub input_card_role : InputSpec → Role RecordType InputSpec
input_card_role (input.Type t) = Heading t t.file
input_card_role (input.And codes) = Follower (input.And codes)
input_card_role (input.Field f) = Follower (input.Field f)

-- the role of a card among I cards
abbrev pub input_role : Spec → Role RecordType InputSpec
input_role s = role_on input_card_role (input_on s)

-- AN and OR cards continue the calculation above them
abbrev pub joins : ControlLevel → Bool
joins control.And = true
joins control.Or = true
joins _ = false

-- a line, its AND and OR cards and its field cards
abbrev pub output_card_role : OutputSpec → Role OutputRecord OutputSpec
output_card_role (output.Record r) = Heading r r.file
output_card_role (output.And t) = Follower (output.And t)
output_card_role (output.Or t) = Follower (output.Or t)
output_card_role (output.Field f) = Follower (output.Field f)

-- the role of a card among O cards
abbrev pub output_role : Spec → Role OutputRecord OutputSpec
output_role s = role_on output_card_role (output_on s)

-- a `**` card, and the data after it
abbrev pub data_card_role : DataSpec → Role (Unit {0}) (List ℕ)
data_card_role deck.Begin = Heading tt None
data_card_role (deck.Card text) = Follower text

-- the role of a card among those of table data
abbrev pub data_role : Spec → Role (Unit {0}) (List ℕ)
data_role s = role_on data_card_role (data_on s)
