-- Edit words.
use Rattle.std.specs.Prelude.{◌≡◌, ℕ, ◌-◌, Bool, false, not, ◌&&◌, ◌||◌, List, [], ◌∷◌, ◌++◌, map, length, take, drop, count_by, ℤ, if◌then◌else◌, nat_lt, ◌==◌, slice_index, slice_set}
use Rattle.std.specs.List.{suffix_len, position_or_len, after_first}
use Rattle.rpg_edit_marks.specs.declared.mark.Mark.{Mark}
use Rattle.rpg_edit_marks.specs.declared.mark.Mark.TheVariants.{Digit, Insert, Always, Sign}
use Rattle.rpg_edit_marks.specs.Edited.{is_digit_place, marked_text, places}

-- the stop is the first 0 or *
abbrev pub is_stop : ℕ → Bool
is_stop c = (c == 48) || (c == 42)

-- & means a blank
abbrev pub shown_character : ℕ → ℕ
shown_character c = if c == 38 then 32 else c

-- the mark of a character in the part of the digits
abbrev pub mark_of : ℕ → Mark
mark_of c = if c == 32 then Digit else Insert (shown_character c)

-- blanks and the stop are places
abbrev pub marks_of : List ℕ → List Mark
marks_of [] = []
marks_of (c ∷ rest) = if is_stop c then Digit ∷ map mark_of rest else mark_of c ∷ marks_of rest

-- how many marks there are up to the last place
abbrev pub places_end : List Mark → ℕ
places_end marks = length marks - suffix_len (λ m. not (is_digit_place m)) marks

-- the mark of a character that is always shown
abbrev pub always_mark : ℕ → Mark
always_mark c = Always (shown_character c)

-- the text begins with that character
abbrev pub begins_with_character : ℕ → List ℕ → Bool
begins_with_character c [] = false
begins_with_character c (d ∷ rest) = d == c

-- the text begins with CR
abbrev pub begins_credit : List ℕ → Bool
begins_credit [] = false
begins_credit (c ∷ rest) = (c == 67) && begins_with_character 82 rest

-- the sign is the CR or the - that comes first after the places
abbrev pub sign_part : List ℕ → List Mark
sign_part [] = []
sign_part (c ∷ rest) =
    if c == 45 then Sign 45 ∷ map always_mark rest
    else (if begins_credit (c ∷ rest) then Sign 67 ∷ Sign 82 ∷ map always_mark (drop 1 rest)
    else always_mark c ∷ sign_part rest)

-- a dollar sign in the first position always shows
abbrev pub first_dollar : List ℕ → List Mark → List Mark
first_dollar word marks = if begins_with_character 36 word then slice_set marks 0 (Always 36) else marks

-- the marks of an edit word
abbrev pub word_marks : List ℕ → List Mark
word_marks word =
    let marks = first_dollar word (marks_of word) in
    take (places_end marks) marks ++ sign_part (drop (places_end marks) word)

-- where zeros stop being suppressed
abbrev pub stop_of : List ℕ → ℕ
stop_of word = position_or_len is_stop word

-- these digits always show
abbrev pub digits_after_stop : List ℕ → ℕ
digits_after_stop word = count_by (λ c. c == 32) (after_first is_stop word)

-- the character for suppressed zeros: an asterisk or a blank
abbrev pub word_fill : List ℕ → ℕ
word_fill word = if slice_index word (stop_of word) == 42 then 42 else 32

-- a dollar sign comes right before the stop
abbrev pub has_dollar_at_stop : List ℕ → Bool
has_dollar_at_stop word = nat_lt (stop_of word) (length word) && (slice_index word (stop_of word - 1) == 36)

-- the text of n by a word
abbrev pub worded : ℤ → List ℕ → List ℕ
worded n word = marked_text n (digits_after_stop word) (word_fill word) (word_marks word)

-- the word's places are as many as the digits, and no dollar sign comes right before its stop
pub record IsWordFor (digits : ℕ) (word : List ℕ) : Type 0 where
  pub same_places : places (word_marks word) ≡ digits
  pub no_dollar : has_dollar_at_stop word ≡ false
