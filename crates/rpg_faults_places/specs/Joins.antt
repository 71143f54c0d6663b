-- F16 of control fields and match fields: a level whose joined length differs or is too long, and a repeated match level.
use Rattle.std.specs.Prelude.{ℕ, ◌+◌, ◌==◌, ◌&&◌, nat_le, nat_lt, List, [], ◌∷◌, Bool, Option, None, Some, is_some, option_and_then, sum_by, if◌then◌else◌}
use Rattle.std.specs.Option.{option_map, option_or}
use Rattle.rpg_cards.specs.Cards.{input_field_on, input_on, type_on}
use Rattle.rpg_cards.specs.Groups.{followers, input_role}
use Rattle.rpg_cards.specs.Levels.{is_at, match_level}
use Rattle.rpg_cards.specs.declared.spec_card.SpecCard.{SpecCard}
use Rattle.rpg_faults_places.specs.declared.joins.FirstLength.{FirstLength}
use Rattle.rpg_faults_places.specs.declared.joins.FirstMatched.{FirstMatched}
use Rattle.rpg_faults_places.specs.declared.joins.JoinCause.{JoinCause}
use Rattle.rpg_faults_places.specs.declared.joins.JoinCause.TheVariants.{LongLevel, LongMatches, MatchedTwice, OtherLength, OtherMatches}
use Rattle.rpg_faults_places.specs.Places.{valid_matches, input_columns, joined_length, level_length, levels, matched_fields}
use Rattle.rpg_sheet_specs.specs.declared.column_range.ColumnRange.{ColumnRange}
use Rattle.rpg_sheet_specs.specs.declared.column_range.ColumnRange.TheVariants as range
use Rattle.rpg_sheet_specs.specs.declared.input.InputFieldSpec.{InputFieldSpec}
use Rattle.rpg_sheet_specs.specs.declared.input.InputSpec.{InputSpec}
use Rattle.rpg_sheet_specs.specs.declared.input.InputSpec.TheVariants as input

-- a card of a record type, which opens a group
abbrev pub opens_type : SpecCard → Bool
opens_type c = is_some (type_on c.spec)

-- the cards after the last type among these: those of the open type
abbrev pub after_last : List SpecCard → List SpecCard → List SpecCard
after_last own [] = own
after_last own (c ∷ cs) = if opens_type c then after_last cs cs else after_last own cs

-- the cards of the open type
abbrev pub open_cards : List SpecCard → List SpecCard
open_cards before = after_last [] before

-- the first cause of a list
abbrev pub first_cause_in_list : {X C : Type 0} → (X → Option C) → List X → Option C
first_cause_in_list cause [] = None
first_cause_in_list cause (x ∷ xs) = option_or (cause x) (first_cause_in_list cause xs)

-- ---- control fields

-- the joined length of a type, with its card
abbrev pub length_on_card : SpecCard → ℕ → FirstLength
length_on_card c n = record { card = c.number; length = n }

-- the joined length of the first of these types that has the level
abbrev pub first_on : ℕ → List SpecCard → Option FirstLength
first_on level [] = None
first_on level (c ∷ cs) =
    if opens_type c then option_or (option_map (length_on_card c) (level_length level (followers input_role cs))) (first_on level cs) else first_on level cs

-- two joined lengths of a level, if they differ
abbrev pub of_lengths : ℕ → Option FirstLength → Option ℕ → Option JoinCause
of_lengths level None own = None
of_lengths level (Some f) None = None
of_lengths level (Some f) (Some n) = if f.length == n then None else Some (OtherLength level n f.length f.card)

-- a level of the type whose card is between these
abbrev pub of_level : List SpecCard → List SpecCard → ℕ → Option JoinCause
of_level before after level = of_lengths level (first_on level before) (level_length level (followers input_role after))

-- the first level whose joined length isn't that of the first type with it
abbrev pub other_length : List SpecCard → List SpecCard → Option JoinCause
other_length before after = first_cause_in_list (of_level before after) levels

-- a field at a level whose earlier fields have this many columns
abbrev pub long_level : ℕ → ℕ → ℕ → Option JoinCause
long_level level joined n = if nat_le joined 256 && nat_lt 256 (joined + n) then Some (LongLevel level (joined + n)) else None

-- the field with which its level is too long
abbrev pub level_cause : List SpecCard → InputFieldSpec → Option JoinCause
level_cause own f = option_and_then (λ level. long_level level (joined_length level (followers input_role own)) (input_columns f)) f.level

-- ---- match fields

-- the match fields on the cards up to the next type
abbrev pub matched : List SpecCard → List InputFieldSpec
matched cards = matched_fields (followers input_role cards)

-- the card, if its field is of that match level
abbrev pub if_matched : ℕ → SpecCard → Option ℕ
if_matched level c = option_and_then (λ f. if is_at match_level level f then Some c.number else None) (input_field_on c.spec)

-- the first card up to the next type that has the match level
abbrev pub matched_on : ℕ → List SpecCard → Option ℕ
matched_on level [] = None
matched_on level (c ∷ cs) = if opens_type c then None else option_or (if_matched level c) (matched_on level cs)

-- match fields of this many columns, and one more
abbrev pub long_matches : ℕ → ℕ → Option JoinCause
long_matches joined n = if nat_le joined 256 && nat_lt 256 (joined + n) then Some (LongMatches (joined + n)) else None

-- a repeated match level, or a field that makes the match fields too long
abbrev pub of_match : List SpecCard → InputFieldSpec → ℕ → Option JoinCause
of_match own f level = option_or (option_map (MatchedTwice level) (matched_on level own)) (long_matches (sum_by input_columns (matched own)) (input_columns f))

-- the match field that repeats its level or makes the match fields too long
abbrev pub match_level_cause : List SpecCard → InputFieldSpec → Option JoinCause
match_level_cause own f = option_and_then (of_match own f) f.match_level

-- the lengths of a type's match fields, with its card
abbrev pub matches_on_card : SpecCard → List ℕ → FirstMatched
matches_on_card c lengths = record { card = c.number; lengths = lengths }

-- those of the first of these types that has some, all of them valid
abbrev pub first_matched : List SpecCard → Option FirstMatched
first_matched [] = None
first_matched (c ∷ cs) = if opens_type c then option_or (option_map (matches_on_card c) (valid_matches (matched cs))) (first_matched cs) else first_matched cs

-- the first level, from a number on, at which two lists of lengths differ
abbrev pub first_difference : ℕ → ℕ → List ℕ → List ℕ → Option JoinCause
first_difference card level [] [] = None
first_difference card level [] (n ∷ ns) = Some (OtherMatches level n 0 card)
first_difference card level (m ∷ ms) [] = Some (OtherMatches level 0 m card)
first_difference card level (m ∷ ms) (n ∷ ns) = if m == n then first_difference card (level + 1) ms ns else Some (OtherMatches level n m card)

-- the first level at which the lengths differ from those of the first type with valid match fields, if there is one
abbrev pub of_matches : Option FirstMatched → Option (List ℕ) → Option JoinCause
of_matches None own = None
of_matches (Some f) None = None
of_matches (Some f) (Some ns) = first_difference f.card 1 f.lengths ns

-- a level of other match fields than in the first type with some
abbrev pub other_matches : List SpecCard → List SpecCard → Option JoinCause
other_matches before after = of_matches (first_matched before) (valid_matches (matched after))

-- ---- of an I card

-- a field after those cards of its type
abbrev pub on_field : List SpecCard → InputFieldSpec → Option JoinCause
on_field own f = option_or (level_cause own f) (match_level_cause own f)

-- of the card of a type, its levels and its match fields; of a field card, its control field and its match field
abbrev pub input_join_cause : List SpecCard → List SpecCard → InputSpec → Option JoinCause
input_join_cause before after (input.Type t) = option_or (other_length before after) (other_matches before after)
input_join_cause before after (input.And codes) = None
input_join_cause before after (input.Field f) = on_field (open_cards before) f

-- F16 of control fields and match fields
unfoldable pub join_cause : List SpecCard → SpecCard → List SpecCard → Option JoinCause
join_cause before c after = option_and_then (input_join_cause before after) (input_on c.spec)

-- the columns that a cause is about; none if a record type differs from others
abbrev pub join_range : JoinCause → Option ColumnRange
join_range (LongLevel level columns) = Some range.InputLevel
join_range (MatchedTwice level card) = Some range.InputMatch
join_range (LongMatches columns) = Some range.InputMatch
join_range _ = None
