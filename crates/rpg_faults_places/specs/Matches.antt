-- The match fields after the cards before a card.
use Rattle.std.specs.Prelude.{◌≡◌, ℕ, List, [], ◌∷◌, ◌++◌, Bool, false, min, map, take, sum_by, Option, None, Some}
use Rattle.std.specs.List.{list_any}
use Rattle.std.specs.Option.{option_map}
use Rattle.rpg_cards.specs.Groups.{followers, group_count, groups, input_role, open_group}
use Rattle.rpg_cards.specs.Levels.{is_at, match_level}
use Rattle.rpg_cards.specs.declared.spec_card.SpecCard.{SpecCard}
use Rattle.rpg_faults_places.specs.Lengths.{input_specs_in}
use Rattle.rpg_faults_places.specs.Places.{first_valid_matches, valid_matches, has_bad, has_twice, input_columns, levels, matched_fields}
use Rattle.rpg_faults_places.specs.declared.matches.Further.{Further}
use Rattle.rpg_faults_places.specs.declared.matches.Further.TheVariants as further
use Rattle.rpg_faults_places.specs.declared.matches.Matches.{Matches}
use Rattle.rpg_faults_places.specs.declared.matches.OpenMatches.{OpenMatches}
use Rattle.rpg_sheet_specs.specs.declared.input.InputFieldSpec.{InputFieldSpec}
use Rattle.rpg_sheet_specs.specs.declared.input.InputSpec.{InputSpec}

-- those of the types up to the open one, with all their fields
abbrev pub first_of_types : List SpecCard → List SpecCard → Option (List ℕ)
first_of_types cards before = first_valid_matches (take (group_count input_role before) (groups input_role cards))

-- one of the fields has that match level
abbrev pub has_match_level : List InputFieldSpec → ℕ → Bool
has_match_level fs level = list_any (is_at match_level level) fs

-- which levels a type's match fields have, and their columns; longer ones count as 65,535
abbrev pub matches_of : List InputSpec → OpenMatches
matches_of specs = record { levels = map (has_match_level (matched_fields specs)) levels; length = min (sum_by input_columns (matched_fields specs)) 65535 }

-- what is known of the match fields of the open record type
abbrev pub AreOpenMatches : List SpecCard → Matches → Type 0
AreOpenMatches before m = m.open_type ≡ option_map matches_of (input_specs_in (open_group input_role before))

-- what is known of match fields before a card: of the first type, and of the open one
pub record AreMatches (cards before : List SpecCard) (m : Matches) : Type 0 where
  pub first : m.first ≡ first_of_types cards before
  pub open_type : AreOpenMatches before m

-- ---- a type's match fields, one by one

-- so far each level appears once, with valid columns
pub record AreValid (fs : List InputFieldSpec) (found : Option (List ℕ)) : Type 0 where
  pub columns : has_bad fs ≡ false
  pub once : has_twice fs ≡ false
  pub lengths : found ≡ valid_matches fs

-- one more, which makes them valid or bad
abbrev pub AreWith : List InputFieldSpec → InputFieldSpec → Option (List ℕ) → Type 0
AreWith fs f (Some lengths) = AreValid (fs ++ f ∷ []) (Some lengths)
AreWith fs f None = (rest : List InputFieldSpec) → valid_matches (fs ++ f ∷ rest) ≡ None

-- the lengths of match fields, with one more field of that level and this many columns
abbrev pub AddsMatch : ℕ → ℕ → Option (List ℕ) → Option (List ℕ) → Type 0
AddsMatch level columns old new = (fs : List InputFieldSpec) (f : InputFieldSpec) → AreValid fs old → f.match_level ≡ Some level → columns ≡ input_columns f → AreWith fs f new

-- those of the cards up to the next type, with earlier fields
abbrev pub matches_up_to : List InputFieldSpec → List SpecCard → Option (List ℕ)
matches_up_to fs cards = valid_matches (fs ++ matched_fields (followers input_role cards))

-- what one more card does to the lengths of the fields before it, whatever follows
abbrev pub MakesOf : List InputFieldSpec → SpecCard → Option (List ℕ) → Further → Type 0
MakesOf fs card found further.OtherType = (rest : List SpecCard) → found ≡ matches_up_to fs (card ∷ rest)
MakesOf fs card found further.Bad = (rest : List SpecCard) → None ≡ matches_up_to fs (card ∷ rest)
MakesOf fs card found (further.Lengths more) = (gs : List InputFieldSpec) × AreValid gs more × ((rest : List SpecCard) → matches_up_to gs rest ≡ matches_up_to fs (card ∷ rest))
