-- F16: columns outside the record or the line, skips past the page, fields too wide for their end position, control fields and match fields that don't agree.
use Rattle.std.specs.Prelude.{ℕ, ◌+◌, ◌-◌, List, [], ◌∷◌, map, Bool, false, not, ◌&&◌, ◌||◌, ◌==◌, nat_eq, nat_lt, nat_le, sum_by, Option, None, Some, if◌then◌else◌}
use Rattle.std.specs.Cmp.Lexicographic.{pointwise}
use Rattle.std.specs.List.{filter, list_any, range_with_len}
use Rattle.std.specs.Option.{option_map_or, option_or}
use Rattle.rpg_card_index.specs.Index.{is_for}
use Rattle.rpg_cards.specs.Cards.{input_on, output_field_on, output_record_on}
use Rattle.rpg_cards.specs.Files.{file_by, page_of}
use Rattle.rpg_cards.specs.Groups.{Group, followers, groups, input_role, open_file, open_group, output_role}
use Rattle.rpg_cards.specs.Levels.{control_level, fields_at, fields_with, is_at, is_match_field, match_level}
use Rattle.rpg_cards.specs.declared.files.FileUse.TheVariants.{Printer}
use Rattle.rpg_cards.specs.declared.spec_card.SpecCard.{SpecCard}
use Rattle.rpg_faults_operands.specs.Editing.{width}
use Rattle.rpg_sheet_specs.specs.declared.file.FileSpec.{FileSpec}
use Rattle.rpg_sheet_specs.specs.declared.indicator.Three.{Three}
use Rattle.rpg_sheet_specs.specs.declared.input.InputFieldSpec.{InputFieldSpec}
use Rattle.rpg_sheet_specs.specs.declared.input.InputSpec.{InputSpec}
use Rattle.rpg_sheet_specs.specs.declared.input.InputSpec.TheVariants as input
use Rattle.rpg_sheet_specs.specs.declared.input.RecordCode.{RecordCode}
use Rattle.rpg_sheet_specs.specs.declared.input.RecordType.{RecordType}
use Rattle.rpg_sheet_specs.specs.declared.output.Movement.{Movement}
use Rattle.rpg_sheet_specs.specs.declared.output.OutputField.{OutputField}

-- ---- columns

-- no column is past the length of an unknown file
abbrev pub is_past : Option FileSpec → ℕ → Bool
is_past file column = option_map_or (λ f. nat_lt f.record_length column) file false

-- the position of a record code isn't in the record
abbrev pub is_code_outside : Option FileSpec → Option RecordCode → Bool
is_code_outside file code = option_map_or (λ (c : RecordCode). c.position == 0 || is_past file c.position) code false

-- one of three record codes is outside the record
abbrev pub bad_codes : Option FileSpec → Three (Option RecordCode) → Bool
bad_codes file codes = is_code_outside file codes.first || (is_code_outside file codes.second || is_code_outside file codes.third)

-- columns from 0, to 0, reversed, or past the record
abbrev pub outside_record : Option FileSpec → InputFieldSpec → Bool
outside_record file f = f.from == 0 || (f.to == 0 || (nat_lt f.to f.from || is_past file f.to))

-- an I card names a column that isn't in the record
abbrev pub outside_on_input : Option FileSpec → InputSpec → Bool
outside_on_input file (input.Type t) = bad_codes file t.codes
outside_on_input file (input.And codes) = bad_codes file codes
outside_on_input file (input.Field f) = outside_record file f

-- a field or constant is wider than its end position allows
abbrev pub is_wider : List SpecCard → OutputField → Bool
is_wider cards f = option_map_or (λ w. nat_lt f.end w) (width cards f) false

-- the end position is 0 or past the line, or leaves too little room
abbrev pub outside_line : List SpecCard → Option FileSpec → OutputField → Bool
outside_line cards file f = f.end == 0 || (is_past file f.end || is_wider cards f)

-- a skip past the lines of a page
abbrev pub is_skip_past : ℕ → Option ℕ → Bool
is_skip_past lines skip = option_map_or (nat_lt lines) skip false

-- before or after a line
abbrev pub skips_past : ℕ → Movement → Bool
skips_past lines m = is_skip_past lines m.skip_before || is_skip_past lines m.skip_after

-- a line of the printer skips past its page
abbrev pub outside_page : List SpecCard → Option FileSpec → Movement → Bool
outside_page cards file m = option_map_or (is_for Printer) file false && skips_past (page_of cards).lines m

-- ---- control fields: those of one level and one type are joined

-- 0 if the columns are 0 or reversed
abbrev pub input_columns : InputFieldSpec → ℕ
input_columns f = if f.from == 0 then 0 else f.to + 1 - f.from

-- the field is part of that control level
abbrev pub is_at_level : ℕ → InputFieldSpec → Bool
is_at_level level f = is_at control_level level f

-- the fields of a control level
abbrev pub level_fields : ℕ → List InputSpec → List InputFieldSpec
level_fields level specs = fields_at control_level level specs

-- the joined length of a level, without fields whose columns are bad
abbrev pub joined_length : ℕ → List InputSpec → ℕ
joined_length level specs = sum_by input_columns (level_fields level specs)

-- one of the fields has no columns
abbrev pub has_bad : List InputFieldSpec → Bool
has_bad fs = list_any (λ f. input_columns f == 0) fs

-- the length of a type that has the level, if all its columns are valid
abbrev pub valid_length : List InputFieldSpec → Option ℕ
valid_length [] = None
valid_length (f ∷ fs) = if has_bad (f ∷ fs) then None else Some (sum_by input_columns (f ∷ fs))

-- the length of a control level, if its fields have columns
abbrev pub level_length : ℕ → List InputSpec → Option ℕ
level_length level specs = valid_length (level_fields level specs)

-- that of the first type that has the level
abbrev pub first_length : ℕ → List (Group RecordType InputSpec) → Option ℕ
first_length level [] = None
first_length level (g ∷ gs) = option_or (level_length level g.followers) (first_length level gs)

-- two lengths that differ
abbrev pub lengths_differ : Option ℕ → Option ℕ → Bool
lengths_differ first own = option_map_or (λ m. option_map_or (λ n. not (m == n)) own false) first false

-- L1 to L9
unfoldable pub levels : List ℕ
levels = range_with_len 1 9

-- a type has other joined lengths than the first types with its levels: its fields follow its card
abbrev pub has_other_lengths : List SpecCard → List SpecCard → Bool
has_other_lengths before after = list_any (λ level. lengths_differ (first_length level (groups input_role before)) (level_length level (followers input_role after))) levels

-- the cards of the open record type, so far
abbrev pub open_specs : List SpecCard → List InputSpec
open_specs before = option_map_or (λ g. g.followers) (open_group input_role before) []

-- the field that puts a level's joined length over 256
abbrev pub passes_length : List SpecCard → InputFieldSpec → Bool
passes_length before f =
    option_map_or (λ level. nat_le (joined_length level (open_specs before)) 256 && nat_lt 256 (joined_length level (open_specs before) + input_columns f)) f.level false

-- the control fields of an I card's type break the rule
abbrev pub controls_badly : List SpecCard → List SpecCard → InputSpec → Bool
controls_badly before after (input.Type t) = has_other_lengths before after
controls_badly before after (input.And codes) = false
controls_badly before after (input.Field f) = passes_length before f

-- ---- match fields: a type has each level at most once, those of all levels are joined, and all types that have any have the same

-- the fields with a match level
abbrev pub matched_fields : List InputSpec → List InputFieldSpec
matched_fields specs = fields_with match_level specs

-- the joined lengths of M1 to M9
abbrev pub match_lengths : List InputFieldSpec → List ℕ
match_lengths fs = map (λ level. sum_by input_columns (filter (is_at match_level level) fs)) levels

-- a field has a match level that is among these
abbrev pub repeats : List InputFieldSpec → InputFieldSpec → Bool
repeats fs f = option_map_or (λ level. list_any (is_at match_level level) fs) f.match_level false

-- a match level stands there twice
abbrev pub has_twice : List InputFieldSpec → Bool
has_twice [] = false
has_twice (f ∷ fs) = repeats fs f || has_twice fs

-- the lengths of a type that has match fields, if no level appears twice and all columns are valid
abbrev pub valid_matches : List InputFieldSpec → Option (List ℕ)
valid_matches [] = None
valid_matches (f ∷ fs) = if has_bad (f ∷ fs) || has_twice (f ∷ fs) then None else Some (match_lengths (f ∷ fs))

-- those of the first such type
abbrev pub first_valid_matches : List (Group RecordType InputSpec) → Option (List ℕ)
first_valid_matches [] = None
first_valid_matches (g ∷ gs) = option_or (valid_matches (matched_fields g.followers)) (first_valid_matches gs)

-- two lists of lengths that differ
abbrev pub matches_differ : Option (List ℕ) → Option (List ℕ) → Bool
matches_differ first own = option_map_or (λ ms. option_map_or (λ ns. not (pointwise nat_eq ms ns)) own false) first false

-- a type has other match fields than the first type that has any
abbrev pub has_other_matches : List SpecCard → List SpecCard → Bool
has_other_matches before after = matches_differ (first_valid_matches (groups input_role before)) (valid_matches (matched_fields (followers input_role after)))

-- the match fields of the open record type, so far
abbrev pub open_matches : List SpecCard → List InputFieldSpec
open_matches before = matched_fields (open_specs before)

-- the match field that puts the length of all match fields over 256
abbrev pub passes_matches : List InputFieldSpec → InputFieldSpec → Bool
passes_matches fs f = is_match_field f && (nat_le (sum_by input_columns fs) 256 && nat_lt 256 (sum_by input_columns fs + input_columns f))

-- after these the match field isn't allowed
abbrev pub refuses : List InputFieldSpec → InputFieldSpec → Bool
refuses fs f = repeats fs f || passes_matches fs f

-- the match fields of an I card's type break the rule
abbrev pub matches_badly : List SpecCard → List SpecCard → InputSpec → Bool
matches_badly before after (input.Type t) = has_other_matches before after
matches_badly before after (input.And codes) = false
matches_badly before after (input.Field f) = refuses (open_matches before) f

-- the control or match fields of an I card's type break the rule
abbrev pub joins_badly : List SpecCard → List SpecCard → InputSpec → Bool
joins_badly before after i = controls_badly before after i || matches_badly before after i

-- ---- the rule

-- the file of the card itself: a type card may name one
abbrev pub own_file : List SpecCard → InputSpec → Option (List ℕ)
own_file before (input.Type t) = option_or t.file (open_file input_role before)
own_file before (input.And codes) = open_file input_role before
own_file before (input.Field f) = open_file input_role before

-- the card has a column outside the record or the line, or joins fields badly
abbrev pub misplaces : List SpecCard → List SpecCard → SpecCard → List SpecCard → Bool
misplaces cards before c after =
    option_map_or (λ i. outside_on_input (file_by (own_file before i) cards) i || joins_badly before after i) (input_on c.spec) false
    || option_map_or (outside_line cards (file_by (open_file output_role before) cards)) (output_field_on c.spec) false
    || option_map_or (λ r. outside_page cards (file_by (option_or r.file (open_file output_role before)) cards) r.movement) (output_record_on c.spec) false
