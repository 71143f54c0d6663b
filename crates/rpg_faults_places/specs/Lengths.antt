-- The joined lengths after the cards before a card, level by level.
use Rattle.std.specs.Prelude.{◌≡◌, ℕ, ◌+◌, ◌-◌, ◌==◌, Bool, List, slice_index_or, min, map, take, sum_by, Option, None, Some, if◌then◌else◌}
use Rattle.std.specs.List.{list_any}
use Rattle.std.specs.Option.{option_map, option_or}
use Rattle.rpg_cards.specs.Groups.{Group, group_count, groups, input_role, open_group}
use Rattle.rpg_cards.specs.declared.spec_card.SpecCard.{SpecCard}
use Rattle.rpg_faults_places.specs.Places.{first_length, has_bad, input_columns, joined_length, level_length, lengths_differ, levels}
use Rattle.rpg_faults_places.specs.declared.lengths.JoinedLengths.{JoinedLengths}
use Rattle.rpg_sheet_specs.specs.declared.input.InputFieldSpec.{InputFieldSpec}
use Rattle.rpg_sheet_specs.specs.declared.input.InputSpec.{InputSpec}
use Rattle.rpg_sheet_specs.specs.declared.input.RecordType.{RecordType}

-- those of the types up to the open one, with all their fields
abbrev pub first_lengths : List SpecCard → List SpecCard → List (Option ℕ)
first_lengths cards before = map (λ level. first_length level (take (group_count input_role before) (groups input_role cards))) levels

-- those of a type's fields; longer ones count as 65,535
abbrev pub lengths_of : List InputSpec → List ℕ
lengths_of specs = map (λ level. min (joined_length level specs) 65535) levels

-- the cards of the open record type
abbrev pub input_specs_in : Option (Group RecordType InputSpec) → Option (List InputSpec)
input_specs_in o = option_map (λ g. g.followers) o

-- what is known of the control fields of the open record type
abbrev pub AreOpenLengths : List SpecCard → JoinedLengths → Type 0
AreOpenLengths before j = j.open_type ≡ option_map lengths_of (input_specs_in (open_group input_role before))

-- what is known of control fields before a card: of the first type, and of the open one
pub record AreJoinedLengths (cards before : List SpecCard) (j : JoinedLengths) : Type 0 where
  pub first : j.first ≡ first_lengths cards before
  pub open_type : AreOpenLengths before j

-- the first lengths, once a type has these fields
abbrev pub with_lengths : List (Option ℕ) → List InputSpec → List (Option ℕ)
with_lengths first specs = map (λ level. option_or (slice_index_or first (level - 1) None) (level_length level specs)) levels

-- a level's length differs from the first type with the level
abbrev pub any_differs : List (Option ℕ) → List InputSpec → Bool
any_differs first specs = list_any (λ level. lengths_differ (slice_index_or first (level - 1) None) (level_length level specs)) levels

-- ---- a level's fields, one by one

-- a field has at least one column
abbrev pub some_length : ℕ → Option ℕ
some_length n = if n == 0 then None else Some n

-- with fields of that joined length before them
abbrev pub length_after : ℕ → List InputFieldSpec → Option ℕ
length_after n fs = if has_bad fs then None else some_length (n + sum_by input_columns fs)
