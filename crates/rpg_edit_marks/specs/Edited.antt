-- Edited numbers, place by place. A code and a word each become a list of marks. What shows at a mark
-- depends only on the digits to its left: with k digits after it, those are size / 10 ^ k.
use Rattle.std.specs.Prelude.{◌≡◌, ℕ, suc, ◌+◌, ◌-◌, ◌/◌, ◌%◌, ◌^◌, ◌<◌, Bool, true, false, not, ◌||◌, List, [], ◌∷◌, length, drop, count_by, ℤ, if◌then◌else◌, nat_lt, nat_le, ◌==◌, slice_index, slice_index_or, slice_set, unsigned_abs}
use Rattle.std.specs.Int.{is_negative}
use Rattle.std.specs.List.{prefix_len}
use Rattle.rpg_edit_marks.specs.declared.mark.Mark.{Mark}
use Rattle.rpg_edit_marks.specs.declared.mark.Mark.TheVariants.{Digit, Insert, Always, Sign}

-- whether a digit goes there
abbrev pub is_digit_place : Mark → Bool
is_digit_place Digit = true
is_digit_place (Insert _) = false
is_digit_place (Always _) = false
is_digit_place (Sign _) = false

-- how many digits the marks have
abbrev pub places : List Mark → ℕ
places marks = count_by is_digit_place marks

-- of the digits in front of the last k, one isn't zero
abbrev pub is_begun : ℕ → ℕ → Bool
is_begun size k = not (size / 10 ^ k == 0)

-- the digit in front of the last k
abbrev pub digit_character : ℕ → ℕ → ℕ
digit_character size k = 48 + size / 10 ^ k % 10

-- the character at a mark that k digits follow, if the last `kept` digits always show: a digit, and a character
-- between digits, after a digit that isn't zero, or if so few digits follow, otherwise the fill
abbrev pub character : Bool → ℕ → ℕ → ℕ → Mark → ℕ → ℕ
character negative size kept fill Digit k = if is_begun size k || nat_lt k kept then digit_character size k else fill
character negative size kept fill (Insert c) k = if is_begun size k || nat_le k kept then c else fill
character negative size kept fill (Always c) k = c
character negative size kept fill (Sign c) k = if negative then c else 32

-- the characters of these marks
abbrev pub characters : Bool → ℕ → ℕ → ℕ → List Mark → List ℕ
characters negative size kept fill [] = []
characters negative size kept fill (m ∷ rest) = character negative size kept fill m (places rest) ∷ characters negative size kept fill rest

-- the text of n at the marks
abbrev pub marked_text : ℤ → ℕ → ℕ → List Mark → List ℕ
marked_text n kept fill marks = characters (is_negative n) (unsigned_abs n) kept fill marks

-- the text by its places: at each, the character of its mark and of the digits that follow
pub record IsTextOf (n : ℤ) (kept fill : ℕ) (marks : List Mark) (text : List ℕ) : Type 0 where
  pub same_length : length text ≡ length marks
  pub each : (i : ℕ) → i < length marks → slice_index text i ≡ character (is_negative n) (unsigned_abs n) kept fill (slice_index_or marks i Digit) (places (drop (suc i) marks))

-- a dollar sign right before the first character that isn't a blank, if there is one
abbrev pub with_dollar : List ℕ → List ℕ
with_dollar text =
    let first = prefix_len (λ c. c == 32) text in
    if nat_lt first (length text) then slice_set text (first - 1) 36 else text
