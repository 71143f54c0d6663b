-- Numbers written from the last mark to the first.
use Rattle.std.specs.Prelude.{◌≡◌, ℕ, ℤ, zero, suc, ◌+◌, ◌-◌, ◌/◌, ◌%◌, ◌<◌, ◌≤◌, ◌==◌, Bool, false, true, ◌&&◌, ◌||◌, if◌then◌else◌, nat_le, nat_lt, IsTrue, List, [], ◌∷◌, ◌++◌, length, replicate, take, drop, unsigned_abs}
use Rattle.std.specs.Int.{is_negative}
use Rattle.std.specs.List.{list_all}
use Rattle.rpg_edit_marks.specs.declared.mark.Mark.{Mark}
use Rattle.rpg_edit_marks.specs.declared.mark.Mark.TheVariants.{Digit, Insert, Always, Sign}
use Rattle.rpg_edit.specs.declared.groups.Group.{Group}
use Rattle.rpg_edit.specs.declared.suppression.Pass.{Pass}
use Rattle.rpg_edit_marks.specs.Code.{comma_marks, whole_marks}
use Rattle.rpg_edit_marks.specs.Edited.{is_begun, is_digit_place, places, character}

-- the characters at marks that k more digits follow
abbrev pub characters_before : Bool → ℕ → ℕ → ℕ → List Mark → ℕ → List ℕ
characters_before negative size kept fill [] k = []
characters_before negative size kept fill (m ∷ rest) k =
    character negative size kept fill m (places rest + k) ∷ characters_before negative size kept fill rest k

-- the characters at the marks are put before the text so far, and nothing else changes
pub record Writes (marks : List Mark) (old : Pass) (before : List ℕ) (new : Pass) (now : List ℕ) : Type 0 where
  pub text : drop new.start now ≡ characters_before old.number.negative old.number.size old.suppression.kept old.suppression.fill marks old.after ++ drop old.start before
  pub front : take new.start now ≡ take new.start before
  pub same_length : length now ≡ length before
  pub start : new.start + length marks ≡ old.start
  pub after : new.after ≡ old.after + places marks
  pub number : new.number ≡ old.number
  pub suppression : new.suppression ≡ old.suppression

-- there is room for n characters before the text so far, which is within its buffer
pub record HasRoom (n : ℕ) (pass : Pass) (out : List ℕ) : Type 0 where
  pub room : n ≤ pass.start
  pub within : pass.start ≤ length out

-- a pass over the text of n, which ends at a place: nothing is written
pub record Begins (n : ℤ) (end : ℕ) (pass : Pass) : Type 0 where
  pub negative : pass.number.negative ≡ is_negative n
  pub size : pass.number.size ≡ unsigned_abs n
  pub start : pass.start ≡ end
  pub after : pass.after ≡ 0

-- one more digit is passed, and this much is left of the number; nothing else changes
pub record PassesDigit (old new : Pass) (left : ℕ) : Type 0 where
  pub after : new.after ≡ old.after + 1
  pub start : new.start ≡ old.start
  pub number : new.number ≡ old.number
  pub suppression : new.suppression ≡ old.suppression
  pub rest : new.rest ≡ left

-- the characters at the marks are written, and so much is left of the number
pub record WritesTo (marks : List Mark) (left : ℕ) (old : Pass) (before : List ℕ) (new : Pass) (now : List ℕ) : Type 0 where
  pub writes : Writes marks old before new now
  pub rest : new.rest ≡ left

-- at most three digits more may be written, or fewer than four are left of the number
abbrev pub AreFewLeft : ℕ → Pass → Type 0
AreFewLeft more p = IsTrue (nat_le more 3 || nat_lt p.rest 1000)

-- the digits that always show are written, or none is yet, of one at most
abbrev pub is_at_whole : Pass → Bool
is_at_whole p = nat_le p.suppression.kept p.after || ((p.after == 0) && nat_le p.suppression.kept 1)

-- the characters of the last three digits of a number, and of a comma
pub record IsGroupOf (n : ℕ) (group : Group) : Type 0 where
  pub comma : group.comma ≡ 44
  pub hundreds : group.hundreds ≡ 48 + n / 10 / 10 % 10
  pub tens : group.tens ≡ 48 + n / 10 % 10
  pub ones : group.ones ≡ 48 + n % 10

-- three digits, and a comma before them if there are commas
abbrev pub group_marks : Bool → List Mark
group_marks commas = (if commas then Insert 44 ∷ [] else []) ++ replicate 3 Digit

-- digits, and characters between them, which show the fill in front of a number
abbrev pub is_suppressed : Mark → Bool
is_suppressed Digit = true
is_suppressed (Insert c) = true
is_suppressed (Always c) = false
is_suppressed (Sign c) = false

-- the last mark is a digit, if there is one
abbrev pub is_digit_last : List Mark → Bool
is_digit_last [] = true
is_digit_last (m ∷ []) = is_digit_place m
is_digit_last (m ∷ n ∷ rest) = is_digit_last (n ∷ rest)

-- nothing is left of the number, and no more digits show for all that
pub record IsUsedUp (p : Pass) : Type 0 where
  pub rest : p.rest ≡ 0
  pub kept : p.suppression.kept ≤ p.after

-- marks of this count, this many of them digits, that all print the fill before what is written once the number is used up
pub record AreSuppressed (count digits : ℕ) (pass : Pass) (marks : List Mark) : Type 0 where
  pub count_is : length marks ≡ count
  pub digits_are : places marks ≡ digits
  pub each : list_all is_suppressed marks ≡ true
  pub last : (nat_lt pass.suppression.kept pass.after || is_digit_last marks) ≡ true

-- digits are written, at most as many as allowed; if fewer, no more are printed
pub record WritesShown (digits written : ℕ) (old : Pass) (before : List ℕ) (new : Pass) (now : List ℕ) : Type 0 where
  pub most : written ≤ digits
  pub writes : Writes (replicate written Digit) old before new now
  pub used : written < digits → IsUsedUp new

-- digits are written, with commas if there are any, and these are left; if any are, no more are printed
pub record WritesWhole (commas : Bool) (digits left : ℕ) (old : Pass) (before : List ℕ) (new : Pass) (now : List ℕ) : Type 0 where
  pub most : left ≤ digits
  pub writes : Writes (whole_marks commas (digits - left)) old before new now
  pub used : 0 < left → IsUsedUp new

-- the next digit shows
abbrev pub is_clear : Pass → Bool
is_clear p = is_begun p.number.size p.after || nat_lt p.after p.suppression.kept

-- the next two digits show
abbrev pub are_clear : Pass → Bool
are_clear p = nat_le 10 p.rest || nat_le (p.after + 2) p.suppression.kept

-- the marks of n more digits in front of `left`
abbrev pub marks_before : Bool → ℕ → ℕ → List Mark
marks_before commas left zero = []
marks_before commas left (suc n) = (Digit ∷ comma_marks commas (n + left)) ++ marks_before commas left n
