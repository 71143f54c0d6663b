-- Moves of places from a source over an old value.
use Rattle.std.specs.Prelude.{ℕ, ◌-◌, ℤ, unsigned_abs, List, ◌++◌, length, take, drop, nat_lt, if◌then◌else◌}
use Rattle.std.specs.Int.{is_negative}
use Rattle.rpg_decimal_words.specs.Place.{lowest_digits, signed_number}

-- aligned right: a place that the source has is the source's, the others are the old ones
abbrev pub overlay_right : {A : Type 0} → List A → List A → List A
overlay_right source old = take (length old - length source) old ++ drop (length source - length old) source

-- aligned left
abbrev pub overlay_left : {A : Type 0} → List A → List A → List A
overlay_left source old = take (length old) source ++ drop (length source) old

-- MOVE of n, of k digits, to a number of `len` digits: its digits over the others, and its sign
abbrev pub number_moved_right : ℕ → ℤ → ℕ → ℤ → ℤ
number_moved_right k n len before =
    signed_number (is_negative n) (overlay_right (lowest_digits k (unsigned_abs n)) (lowest_digits len (unsigned_abs before)))

-- MOVEL: its digits over the others, and its sign if it reaches the last place, otherwise the old one
abbrev pub number_moved_left : ℕ → ℤ → ℕ → ℤ → ℤ
number_moved_left k n len before =
    signed_number (is_negative (if nat_lt k len then before else n)) (overlay_left (lowest_digits k (unsigned_abs n)) (lowest_digits len (unsigned_abs before)))
