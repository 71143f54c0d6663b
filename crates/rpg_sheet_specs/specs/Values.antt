-- What the text of a range of columns means.
use Rattle.std.specs.Prelude.{ℕ, ◌+◌, ◌-◌, ◌*◌, ℤ, pos, neg_ℤ, List, [], ◌∷◌, ◌++◌, length, take, drop, slice_index, slice_range, position, Bool, true, false, Option, None, Some, if◌then◌else◌, ◌==◌, ◌&&◌, ◌||◌, not, nat_le, nat_lt, codes}
use Rattle.std.specs.List.{list_all, prefix_len, before_first, after_first}
use Rattle.std.specs.Option.{option_map, option_and_then, option_or}
use Rattle.std.specs.Char.{is_ascii_digit, is_ascii_uppercase}
use Rattle.std.specs.Str.{bytes_eq}
use Rattle.std.specs.Str.Parse.{digits_value, starts_with_minus, without_leading_sign}
use Rattle.rpg_edit_marks.specs.declared.code.EditCode.{EditCode}
use Rattle.rpg_edit_marks.specs.Code.{code_of}
use Rattle.rpg_sheet_specs.specs.declared.entry.Entry.{Entry}
use Rattle.rpg_sheet_specs.specs.declared.entry.EntryIndex.{EntryIndex}
use Rattle.rpg_sheet_specs.specs.declared.entry.EntryIndex.TheVariants as indexes
use Rattle.rpg_sheet_specs.specs.declared.indicator.ConditionSpec.{ConditionSpec}
use Rattle.rpg_sheet_specs.specs.declared.input.RecordCode.{RecordCode}
use Rattle.rpg_sheet_specs.specs.declared.literal.Literal.{Literal}
use Rattle.rpg_sheet_specs.specs.declared.literal.Literal.TheVariants as literals
use Rattle.rpg_sheet_specs.specs.declared.literal.Factor.{Factor}
use Rattle.rpg_sheet_specs.specs.declared.literal.Factor.TheVariants as factors
use Rattle.rpg_sheet_specs.specs.Numeral.{Numeral}
use Rattle.rpg_text.specs.Texts.{is_between, is_blank, all_blank, trimmed}

-- ---- texts

-- without leading blanks
abbrev pub right_part : List ℕ → List ℕ
right_part text = drop (prefix_len is_blank text) text

-- a value if a test holds
abbrev pub when : {X : Type 0} → Bool → X → Option X
when b x = if b then Some x else None

-- the one of these whose spelling the text is
abbrev pub one_of : {X : Type 0} → List (List ℕ × X) → List ℕ → Option X
one_of [] text = None
one_of (c ∷ cs) text = if bytes_eq text c.0 then Some c.1 else one_of cs text

-- only this spelling
unfoldable pub only : List ℕ → List ℕ → Option (Unit {0})
only spelling = one_of ((spelling, tt) ∷ [])

-- only blank
unfoldable pub unused : List ℕ → Option (Unit {0})
unused text = when (all_blank text) tt

-- blank, or a text by the rule
unfoldable pub blank_or : {X : Type 0} → (List ℕ → Option X) → List ℕ → Option (Option X)
blank_or rule text = if all_blank text then Some None else option_map Some (rule text)

-- blank or this one character: is it there?
unfoldable pub marked : List ℕ → List ℕ → Option Bool
marked mark text = one_of ((codes " ", false) ∷ (mark, true) ∷ []) text

-- ---- numbers and names

-- digits alone, and at least one
abbrev pub all_digits : List ℕ → Bool
all_digits text = nat_lt 0 (length text) && list_all is_ascii_digit text

-- digits in every column
unfoldable pub digits : List ℕ → Option ℕ
digits text = when (all_digits text) (digits_value 10 text)

-- right-aligned digits after blanks
unfoldable pub number : List ℕ → Option ℕ
number text = digits (right_part text)

-- a number in these bounds
unfoldable pub number_within : ℕ → ℕ → List ℕ → Option ℕ
number_within low high text = option_and_then (λ n. when (is_between low high n) n) (number text)

-- A to Z, and the characters that names have as letters: $ # @
abbrev pub is_letter : ℕ → Bool
is_letter c = is_ascii_uppercase c || (c == 36) || (c == 35) || (c == 64)

-- a letter or a digit
abbrev pub is_name_character : ℕ → Bool
is_name_character c = is_letter c || is_ascii_digit c

-- a letter, `$`, `#` or `@`, then letters, digits or these, up to a limit
abbrev pub is_name : ℕ → List ℕ → Bool
is_name most [] = false
is_name most (c ∷ cs) = is_letter c && list_all is_name_character cs && nat_le (length cs + 1) most

-- a text that is a name of at most this many characters
abbrev pub name_of : ℕ → List ℕ → Option (List ℕ)
name_of most text = when (is_name most text) text

-- a name of at most this many characters, from the first column on
unfoldable pub name : ℕ → List ℕ → Option (List ℕ)
name most text = name_of most (trimmed text)

-- a letter in every column
unfoldable pub letters : List ℕ → Option (List ℕ)
letters text = when (list_all is_ascii_uppercase text) text

-- ---- entries, from the first column on

-- at most four digits, or a name
abbrev pub literal_index : List ℕ → Option ℕ
literal_index text = if nat_le (length text) 4 then digits text else None

-- an index: a number or a name
abbrev pub index_spelled : List ℕ → Option EntryIndex
index_spelled text = option_or (option_map indexes.Literal (literal_index text)) (option_map indexes.Name (name_of 6 text))

-- a comma
abbrev pub is_comma : ℕ → Bool
is_comma c = c == 44

-- a name without an index
abbrev pub plain : List ℕ → Entry
plain n = record { name = n; index = None }

-- a name with its index
abbrev pub indexed : List ℕ → EntryIndex → Entry
indexed n i = record { name = n; index = Some i }

-- a name; or if there is a comma, the name before the first one and the index after it
abbrev pub entry_split : Option ℕ → List ℕ → Option Entry
entry_split None text = option_map plain (name_of 6 text)
entry_split (Some i) text = option_and_then (λ n. option_map (indexed n) (index_spelled (drop (i + 1) text))) (name_of 6 (take i text))

-- a name, with an index after a comma or without one
abbrev pub entry_spelled : List ℕ → Option Entry
entry_spelled text = entry_split (position is_comma text) text

-- a name in columns, with or without an index
unfoldable pub entry : List ℕ → Option Entry
entry text = entry_spelled (trimmed text)

-- ---- literals, from the first column on

-- a decimal point
abbrev pub is_point : ℕ → Bool
is_point c = c == 46

-- the number, negative after a minus sign
abbrev pub with_sign : Bool → ℕ → ℤ
with_sign minus n = if minus then neg_ℤ (pos n) else pos n

-- the number of these digits before its point and these after it; there must be at least one digit
abbrev pub numeral : Bool → List ℕ → List ℕ → Option Numeral
numeral minus whole following = when (all_digits (whole ++ following)) (record {
  value = with_sign minus (digits_value 10 (whole ++ following));
  length = length (whole ++ following);
  decimals = length following;
})

-- a sign or none, and digits with a point or none
abbrev pub numeral_of : List ℕ → Option Numeral
numeral_of text = numeral (starts_with_minus text) (before_first is_point (without_leading_sign text)) (after_first is_point (without_leading_sign text))

-- an apostrophe
abbrev pub is_apostrophe : ℕ → Bool
is_apostrophe c = c == 39

-- every apostrophe twice
abbrev pub doubled : List ℕ → List ℕ
doubled [] = []
doubled (c ∷ cs) = if is_apostrophe c then 39 ∷ 39 ∷ doubled cs else c ∷ doubled cs

-- as a card writes a text
abbrev pub in_apostrophes : List ℕ → List ℕ
in_apostrophes text = 39 ∷ doubled text ++ 39 ∷ []

-- the text whose apostrophes are written twice: none if one of them is single
abbrev pub undoubled : List ℕ → Option (List ℕ)
undoubled [] = Some []
undoubled (c ∷ []) = when (not (is_apostrophe c)) (c ∷ [])
undoubled (c ∷ d ∷ cs) =
    if not (is_apostrophe c) then option_map (λ t. c ∷ t) (undoubled (d ∷ cs))
    else if is_apostrophe d then option_map (λ t. 39 ∷ t) (undoubled cs)
    else None

-- begins and ends with an apostrophe, and has something between them
abbrev pub is_enclosed : List ℕ → Bool
is_enclosed text = nat_lt 2 (length text) && is_apostrophe (slice_index text 0) && is_apostrophe (slice_index text (length text - 1))

-- what is between the apostrophes
abbrev pub quoted_of : List ℕ → Option (List ℕ)
quoted_of text = if is_enclosed text then undoubled (slice_range text 1 (length text - 1)) else None

-- a number in columns
abbrev pub numeric_literal : List ℕ → Option Numeral
numeric_literal text = numeral_of (trimmed text)

-- a text between apostrophes
unfoldable pub quoted : List ℕ → Option (List ℕ)
quoted text = quoted_of (trimmed text)

-- a number, or a text between apostrophes
abbrev pub literal : List ℕ → Option Literal
literal text = option_or (option_map literals.Number (numeric_literal text)) (option_map literals.Text (quoted text))

-- an entry, or a literal
unfoldable pub factor : List ℕ → Option Factor
factor text = option_or (option_map factors.Entry (entry text)) (option_map factors.Literal (literal text))

-- ---- indicators

-- a digit's value
abbrev pub digit_number : ℕ → ℕ
digit_number c = c - 48

-- 01 to 99; L0 to L9; OA to OG; H1 to H9; LR, 1P, OV, MR
abbrev pub indicator_spelled : ℕ → ℕ → Option ℕ
indicator_spelled a b =
    if is_ascii_digit a && is_ascii_digit b then when (nat_lt 0 (10 * digit_number a + digit_number b)) (10 * digit_number a + digit_number b)
    else if (a == 76) && is_ascii_digit b then Some (100 + digit_number b)
    else if (a == 79) && nat_le 65 b && nat_le b 71 then Some (47 + b)
    else if (a == 72) && nat_le 49 b && nat_le b 57 then Some (119 + digit_number b)
    else one_of ((codes "LR", 110) ∷ (codes "1P", 111) ∷ (codes "OV", 119) ∷ (codes "MR", 129) ∷ []) (a ∷ b ∷ [])

-- two characters
unfoldable pub indicator : List ℕ → Option ℕ
indicator (a ∷ b ∷ []) = indicator_spelled a b
indicator _ = None

-- an indicator whose number is in these bounds
unfoldable pub indicator_within : ℕ → ℕ → List ℕ → Option ℕ
indicator_within low high text = option_and_then (λ i. when (is_between low high i) i) (indicator text)

-- a level, from 1 to 9 after its letter
unfoldable pub level : ℕ → List ℕ → Option ℕ
level letter (a ∷ b ∷ []) = when ((a == letter) && is_between 49 57 b) (digit_number b)
level letter _ = None

-- blank or N, and an indicator
unfoldable pub condition : List ℕ → Option ConditionSpec
condition text =
    option_and_then (λ n. option_map (λ i. record { negated = n; indicator = i }) (indicator (drop 1 text))) (marked (codes "N") (take 1 text))

-- ---- codes

-- C and a character
abbrev pub record_character : List ℕ → Option ℕ
record_character (k ∷ c ∷ []) = when (k == 67) c
record_character _ = None

-- four columns position, blank or N, C, and a character
unfoldable pub record_code : List ℕ → Option RecordCode
record_code text =
    option_and_then (λ p. option_and_then (λ n. option_map (λ c. record { position = p; negated = n; character = c }) (record_character (drop 5 text)))
    (marked (codes "N") (slice_range text 4 5))) (number (take 4 text))

-- the edit code of one character
unfoldable pub edit_code : List ℕ → Option EditCode
edit_code (c ∷ []) = code_of c
edit_code _ = None
