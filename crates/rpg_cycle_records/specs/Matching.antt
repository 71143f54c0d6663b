-- Match fields: the value of a record, and how values compare.
use Rattle.std.specs.Prelude.{ℕ, zero, suc, ◌+◌, Bool, false, not, ◌&&◌, List, [], ◌∷◌, ◌++◌, map, Option, None, Some}
use Rattle.std.specs.declared.cmp.Ordering.{Ordering}
use Rattle.std.specs.Cmp.Lexicographic.{slice_cmp}
use Rattle.std.specs.Ordering.{is_gt, nat_cmp, on}
use Rattle.rpg_decimal_words.specs.Order.{rank}
use Rattle.rpg_program.specs.declared.input.ControlField.{ControlField}
use Rattle.rpg_cycle_records.specs.Levels.{joined_bytes}

-- ---- the match value of a record

-- the bytes of the n lowest levels, joined from the highest down
abbrev pub joined_down : List ControlField → List ℕ → ℕ → List ℕ
joined_down fs text zero = []
joined_down fs text (suc n) = joined_bytes fs text (n + 1) ++ joined_down fs text n

-- the bytes of all match fields, from M9 down to M1; records of a type without match fields have no value
abbrev pub match_value_in : List ControlField → List ℕ → Option (List ℕ)
match_value_in [] text = None
match_value_in (f ∷ fs) text = Some (joined_down (f ∷ fs) text 9)

-- ---- order

-- values of the same length are ordered by the places of their characters in the collating sequence
abbrev pub value_cmp : List ℕ → List ℕ → Ordering
value_cmp = on (map rank) (slice_cmp nat_cmp)

-- one match value comes after another
abbrev pub is_greater : List ℕ → List ℕ → Bool
is_greater v w = is_gt (value_cmp v w)

-- neither is greater
abbrev pub neither_is_greater : List ℕ → List ℕ → Bool
neither_is_greater v w = not (is_greater v w) && not (is_greater w v)

-- ---- values that may be missing

-- both exist, and one is greater than the other
abbrev pub exceeds : Option (List ℕ) → Option (List ℕ) → Bool
exceeds None w = false
exceeds (Some v) None = false
exceeds (Some v) (Some w) = is_greater v w

-- both exist and are equal
abbrev pub agrees : Option (List ℕ) → Option (List ℕ) → Bool
agrees None w = false
agrees (Some v) None = false
agrees (Some v) (Some w) = neither_is_greater v w
