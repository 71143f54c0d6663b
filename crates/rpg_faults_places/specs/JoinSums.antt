-- The match fields of a record type's cards up to the next type, one by one.
use Rattle.std.specs.Prelude.{ℕ, ◌==◌, List, [], ◌∷◌, Bool, true, false, not, ◌&&◌, ◌||◌, Option, None, Some, sum_by, if◌then◌else◌}
use Rattle.std.specs.List.{filter}
use Rattle.rpg_cards.specs.Levels.{is_at, is_match_field, match_level}
use Rattle.rpg_cards.specs.declared.spec_card.SpecCard.{SpecCard}
use Rattle.rpg_faults_places.specs.Joins.{matched}
use Rattle.rpg_faults_places.specs.Places.{input_columns, match_lengths, repeats}
use Rattle.rpg_sheet_specs.specs.declared.input.InputFieldSpec.{InputFieldSpec}

-- the columns of a match level up to the next type
abbrev pub match_length : ℕ → List SpecCard → ℕ
match_length level cards = sum_by input_columns (filter (is_at match_level level) (matched cards))

-- there are match fields
abbrev pub are_some : List InputFieldSpec → Bool
are_some [] = false
are_some (f ∷ fs) = true

-- a match field without columns, or whose level is repeated after it
abbrev pub is_bad_match : InputFieldSpec → List InputFieldSpec → Bool
is_bad_match f fs = is_match_field f && (input_columns f == 0 || repeats fs f)

-- a match field is such
abbrev pub any_bad : List InputFieldSpec → Bool
any_bad [] = false
any_bad (f ∷ fs) = (input_columns f == 0 || repeats fs f) || any_bad fs

-- the lengths of all match levels, if there are match fields and none is bad
abbrev pub valid_lengths : List InputFieldSpec → Option (List ℕ)
valid_lengths fs = if are_some fs && not (any_bad fs) then Some (match_lengths fs) else None
