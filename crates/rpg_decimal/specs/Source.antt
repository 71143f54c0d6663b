-- What is moved, and what it gives.
use Rattle.std.specs.Prelude.{ℕ, ◌+◌, ◌-◌, ◌≤◌, ℤ, unsigned_abs, List, length, Option, Some}
use Rattle.rpg_decimal_words.specs.Move.{overlay_right, overlay_left, number_moved_right, number_moved_left}
use Rattle.rpg_decimal_words.specs.Place.{lowest_digits}
use Rattle.rpg_decimal_words.specs.Zoned.{zoned_text, number_in, IsFirstBad}
use Rattle.rpg_decimal.specs.declared.moves.Source.{Source}
use Rattle.rpg_decimal.specs.declared.moves.Source.TheVariants.{Number, Text}
use Rattle.rpg_decimal.specs.declared.num.Figure.{Figure}

-- the digits of a number, without its sign
abbrev pub digits_of : Figure → List ℕ
digits_of f = lowest_digits f.len (unsigned_abs f.value)

-- the characters that a source has: of a number those written for it
abbrev pub source_characters : Source → List ℕ
source_characters (Number n) = zoned_text n.len n.value
source_characters (Text t) = t.now

-- MOVE to a number: a text goes over the old number's text, and what comes out is read
abbrev pub moved_right : Source → ℕ → ℤ → Option ℤ
moved_right (Number n) len before = Some (number_moved_right n.len n.value len before)
moved_right (Text t) len before = number_in (overlay_right t.now (zoned_text len before))

-- MOVEL to a number
abbrev pub moved_left : Source → ℕ → ℤ → Option ℤ
moved_left (Number n) len before = Some (number_moved_left n.len n.value len before)
moved_left (Text t) len before = number_in (overlay_left t.now (zoned_text len before))

-- the first place of the source that MOVE can't bring into a number of `len` digits
abbrev pub IsFirstBadRight : Source → ℕ → ℤ → ℕ → Type 0
IsFirstBadRight (Number n) len before spot = ⊥
IsFirstBadRight (Text t) len before spot =
    (length t.now ≤ spot + len) × IsFirstBad (overlay_right t.now (zoned_text len before)) (spot + len - length t.now)

-- likewise for MOVEL
abbrev pub IsFirstBadLeft : Source → ℕ → ℤ → ℕ → Type 0
IsFirstBadLeft (Number n) len before spot = ⊥
IsFirstBadLeft (Text t) len before spot = IsFirstBad (overlay_left t.now (zoned_text len before)) spot
