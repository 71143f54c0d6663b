-- The first places of names, constants and files.
use Rattle.std.specs.Prelude.{◌≡◌, ℕ, ◌≤◌, ◌++◌, length, take, Bool, false, List, nat_eq, nat_lt, slice_get, if◌then◌else◌, Option, None, Some, is_some}
use Rattle.std.specs.Cmp.Lexicographic.{pointwise}
use Rattle.std.specs.List.{list_all}
use Rattle.std.specs.Map.{lookup}
use Rattle.std.specs.Option.{option_and_then, option_map_or, option_or}
use Rattle.rpg_cards.specs.Cards.{file_on}
use Rattle.rpg_cards.specs.Constants.{constants_in, is_same}
use Rattle.rpg_cards.specs.Files.{file_use, page_of, same_use}
use Rattle.rpg_cards.specs.First.{first_at}
use Rattle.rpg_cards.specs.Levels.{has_match_field}
use Rattle.rpg_cards.specs.Names.{defined_as, definitions, is_of}
use Rattle.rpg_card_index.specs.Totals.{constant_totals, name_totals, AreRunning}
use Rattle.rpg_cards.specs.declared.constants.Constant.{Constant}
use Rattle.rpg_cards.specs.declared.files.FileUse.{FileUse}
use Rattle.rpg_cards.specs.declared.files.FileUse.TheVariants.{Primary, Secondary, Printer, Disk}
use Rattle.rpg_card_index.specs.declared.first_files.FirstFiles.{FirstFiles}
use Rattle.rpg_card_index.specs.declared.first_files.FirstUses.{FirstUses}
use Rattle.rpg_card_index.specs.declared.index.CardIndex.{CardIndex}
use Rattle.rpg_card_index.specs.declared.constant_index.ConstantIndex.{ConstantIndex}
use Rattle.rpg_card_index.specs.declared.name_index.FirstDefinition.{FirstDefinition}
use Rattle.rpg_card_index.specs.declared.name_index.NameIndex.{NameIndex}
use Rattle.rpg_cards.specs.declared.names.Defined.{Defined}
use Rattle.rpg_cards.specs.declared.names.Defined.TheVariants.{Missing}
use Rattle.rpg_cards.specs.declared.names.Definition.{Definition}
use Rattle.rpg_cards.specs.declared.spec_card.SpecCard.{SpecCard}
use Rattle.rpg_sheet_specs.specs.declared.file.FileSpec.{FileSpec}

-- a definition with its place
abbrev pub placed_definition : ℕ → Definition → FirstDefinition
placed_definition i d = record { place = i; form = d.form }

-- the place of a constant
abbrev pub place_of_constant : ℕ → Constant → ℕ
place_of_constant i x = i

-- the form in a name's first definition
abbrev pub defined_first : Option FirstDefinition → Defined
defined_first None = Missing
defined_first (Some d) = defined_as d.form

-- the definition has a form
abbrev pub has_some_form : Definition → Bool
has_some_form d = is_some d.form

-- each name with its first definition, the totals of the names, and whether each definition has a form
pub record IsNameIndex (items : List Definition) (index : NameIndex) : Type 0 where
  pub defined : (name : List ℕ) → lookup (pointwise nat_eq name) index.first.entries ≡ first_at (is_of name) placed_definition 0 items
  pub running : AreRunning Definition name_totals items index.totals
  pub formed : index.all_have_forms ≡ list_all has_some_form items

-- each constant with its first place, and the totals of the constants
pub record IsConstantIndex (items : List Constant) (index : ConstantIndex) : Type 0 where
  pub standing : (x : Constant) → lookup (is_same x) index.first.entries ≡ first_at (is_same x) place_of_constant 0 items
  pub running : AreRunning Constant constant_totals items index.totals

-- what is known of the first items becomes known of these too
abbrev pub Notes : {X I : Type 0} → (List X → I → Type 0) → List X → I → I → Type 0
Notes {X} Is more old new = (items : List X) → Is items old → Is (items ++ more) new

-- what is known of at most n items
abbrev pub KnowsAtMost : {X I : Type 0} → ℕ → (List X → I → Type 0) → I → Type 0
KnowsAtMost {X} n Is index = (items : List X) × (Is items index × (length items ≤ n))

-- ---- files

-- the file has that name
abbrev pub is_file_named : List ℕ → FileSpec → Bool
is_file_named name f = pointwise nat_eq name f.name

-- the file has that use
abbrev pub is_for : FileUse → FileSpec → Bool
is_for u f = same_use u (file_use f)

-- an F card whose file passes a test
abbrev pub has_such_file : (FileSpec → Bool) → SpecCard → Bool
has_such_file test c = option_map_or test (file_on c.spec) false

-- the place of a card
abbrev pub place_of_card : ℕ → SpecCard → ℕ
place_of_card i c = i

-- the place of the first F card whose file passes a test
abbrev pub first_file : (FileSpec → Bool) → List SpecCard → Option ℕ
first_file test cards = first_at (has_such_file test) place_of_card 0 cards

-- a place among the first n
abbrev pub place_before : ℕ → Option ℕ → Option ℕ
place_before n None = None
place_before n (Some i) = if nat_lt i n then Some i else None

-- the file on the card at a place
abbrev pub file_of_card_at : List SpecCard → Option ℕ → Option FileSpec
file_of_card_at cards place = option_and_then (λ c. file_on c.spec) (option_and_then (slice_get cards) place)

-- the place of the first F card with a use
abbrev pub first_with : FirstUses → FileUse → Option ℕ
first_with s Primary = s.primary
first_with s Secondary = s.secondary
first_with s Printer = s.printer
first_with s Disk = s.disk

-- a use at a place is noted, unless it is known
abbrev pub with_use : FileUse → ℕ → FirstUses → FirstUses
with_use Primary i s = record { primary = option_or s.primary (Some i); secondary = s.secondary; printer = s.printer; disk = s.disk }
with_use Secondary i s = record { primary = s.primary; secondary = option_or s.secondary (Some i); printer = s.printer; disk = s.disk }
with_use Printer i s = record { primary = s.primary; secondary = s.secondary; printer = option_or s.printer (Some i); disk = s.disk }
with_use Disk i s = record { primary = s.primary; secondary = s.secondary; printer = s.printer; disk = option_or s.disk (Some i) }

-- the card's file, if it has one, is noted under its name and its use, unless they are known
pub record NotesFile (place : ℕ) (c : SpecCard) (old new : FirstFiles) : Type 0 where
  pub named : (name : List ℕ) → lookup (pointwise nat_eq name) new.names.entries ≡ option_or (lookup (pointwise nat_eq name) old.names.entries) (if has_such_file (is_file_named name) c then Some place else None)
  pub used : (u : FileUse) → first_with new.uses u ≡ option_or (first_with old.uses u) (if has_such_file (is_for u) c then Some place else None)

-- each name and each use with the place of its first F card
pub record AreFirstFiles (files : FirstFiles) (cards : List SpecCard) : Type 0 where
  pub named : (name : List ℕ) → lookup (pointwise nat_eq name) files.names.entries ≡ first_file (is_file_named name) cards
  pub used : (u : FileUse) → first_with files.uses u ≡ first_file (is_for u) cards

-- ---- items at their places

-- these items stand at that place among all
abbrev pub StandAt : {X : Type 0} → ℕ → List X → List X → Type 0
StandAt {X} place xs all = (front : List X) × (back : List X) × (place ≡ length front) × (all ≡ front ++ (xs ++ back))

-- whether the item at a place is new, given those before it
abbrev pub IsNewAt : {X : Type 0} → List X → ℕ → (X → List X → Bool) → Bool → Type 0
IsNewAt {X} items place is_new b = (x : X) → slice_get items place ≡ Some x → b ≡ is_new x (take place items)

-- ---- all of it

-- the index of these cards
pub record IsIndexOf (index : CardIndex) (cards : List SpecCard) : Type 0 where
  pub names : IsNameIndex (definitions cards) index.names
  pub constants : IsConstantIndex (constants_in cards) index.constants
  pub files : AreFirstFiles index.files cards
  pub matching : index.has_match_field ≡ has_match_field cards
  pub page : index.page ≡ page_of cards
