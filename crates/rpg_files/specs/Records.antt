-- The records of an input.
use Rattle.std.specs.Prelude.{◌≡◌, ◌==◌, ◌&&◌, ℕ, Bool, true, false, nat_le, if◌then◌else◌, List, [], ◌∷◌, ◌++◌, length, map}
use Rattle.std.specs.List.{flat_map, list_all}
use Rattle.rpg_text.specs.Lines.{is_line, with_line_feed, unless_empty}
use Rattle.rpg_text.specs.Texts.{is_character}

-- a line feed comes first
abbrev pub begins_with_line_feed : List ℕ → Bool
begins_with_line_feed [] = false
begins_with_line_feed (b ∷ bytes) = b == 10

-- one more byte before the first record
abbrev pub onto_first : ℕ → List (List ℕ) → List (List ℕ)
onto_first b [] = (b ∷ []) ∷ []
onto_first b (record_bytes ∷ rest) = (b ∷ record_bytes) ∷ rest

-- A line feed ends a record, and one carriage return before it is dropped. What follows the last line feed is a
-- record if it isn't empty.
abbrev pub records : List ℕ → List (List ℕ)
records [] = []
records (b ∷ bytes) =
    if b == 10 then [] ∷ records bytes
    else (if b == 13 && begins_with_line_feed bytes then records bytes else onto_first b (records bytes))

-- the most records of an input
abbrev pub max_records : ℕ
max_records = 10000000

-- ---- records that a program accepts

-- a record of characters that is no longer than the limit
abbrev pub is_valid : ℕ → List ℕ → Bool
is_valid limit r = nat_le (length r) limit && list_all is_character r

-- the first record of these bytes is one that no program accepts
abbrev pub BeginsBad : ℕ → List ℕ → Type 0
BeginsBad limit bytes = (r : List ℕ) × (rest : List (List ℕ)) × (records bytes ≡ r ∷ rest) × (is_valid limit r ≡ false)

-- ---- lines

-- a line without a carriage return at its end
abbrev pub without_return : List ℕ → List ℕ
without_return [] = []
without_return (b ∷ []) = if b == 13 then [] else b ∷ []
without_return (b ∷ c ∷ bytes) = b ∷ without_return (c ∷ bytes)

-- ---- the same, by lines

-- Lines, each with its line feed, and then a part without one: the records are the lines without the carriage return at their end, and
-- that part unchanged, if it isn't empty. All bytes consist of such lines and such a part.
abbrev pub RecordsAreLines : Type 0
RecordsAreLines = (lines : List (List ℕ)) (rest : List ℕ) → list_all is_line lines ≡ true → is_line rest ≡ true
    → records (flat_map with_line_feed lines ++ rest) ≡ map without_return lines ++ unless_empty rest
