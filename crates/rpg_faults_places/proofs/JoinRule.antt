-- An I card has a cause exactly if its control fields or match fields are joined badly.
use Rattle.std.proofs.Common.{◌≡◌, ℕ, ◌+◌, ◌==◌, Bool, true, false, not, cond, ◌&&◌, ◌||◌, List, [], ◌∷◌, Option, None, Some, refl, sym, ap, ◌∙◌}
use Rattle.std.specs.Cmp.Lexicographic.{pointwise}
use Rattle.std.specs.List.{last_or, list_any}
use Rattle.std.specs.Option.{is_some, option_and_then, option_map, option_map_or, option_or}
use Rattle.std.specs.Prelude.{nat_eq, nat_le, nat_lt, sum_by}
use Rattle.rpg_cards.specs.Cards.{input_field_in, input_on, output_field_on, output_record_on, type_in}
use Rattle.rpg_cards.specs.Files.{file_by}
use Rattle.rpg_cards.specs.Groups.{Group, followers, followers_with, groups, groups_from, input_card_role, input_role, open_file, opening, output_role, role_on}
use Rattle.rpg_cards.specs.Levels.{is_at, match_level}
use Rattle.rpg_cards.specs.declared.spec_card.SpecCard.{SpecCard}
use Rattle.rpg_faults_limits.proofs.LimitRule.{if_some, or_some}
use Rattle.rpg_faults_places.specs.JoinSums.{any_bad, valid_lengths}
use Rattle.rpg_faults_places.specs.Joins.{first_difference, after_last, first_cause_in_list, first_matched, first_on, join_cause, length_on_card, level_cause, long_level, long_matches, match_level_cause, matched, matched_on, matches_on_card, of_lengths, of_level, of_match, of_matches, input_join_cause, open_cards, other_length, other_matches}
use Rattle.rpg_faults_places.specs.Outside.{is_outside}
use Rattle.rpg_faults_places.specs.declared.joins.FirstLength.{FirstLength}
use Rattle.rpg_faults_places.specs.declared.joins.FirstMatched.{FirstMatched}
use Rattle.rpg_faults_places.specs.declared.joins.JoinCause.TheVariants.{LongLevel, LongMatches, MatchedTwice, OtherLength, OtherMatches}
use Rattle.rpg_faults_places.specs.Places.{first_length, first_valid_matches, valid_matches, has_bad, has_other_lengths, has_other_matches, has_twice, input_columns, joined_length, joins_badly, level_length, lengths_differ, levels, matched_fields, match_lengths, matches_differ, misplaces, open_matches, open_specs, outside_line, outside_on_input, outside_page, own_file, passes_length, refuses, repeats}
use Rattle.rpg_sheet_specs.specs.declared.input.InputFieldSpec.{InputFieldSpec}
use Rattle.rpg_sheet_specs.specs.declared.input.InputSpec.{InputSpec}
use Rattle.rpg_sheet_specs.specs.declared.input.InputSpec.TheVariants as input
use Rattle.rpg_sheet_specs.specs.declared.output.OutputRecord.{OutputRecord}
use Rattle.rpg_sheet_specs.specs.declared.input.RecordType.{RecordType}

mapped_some : {X C : Type 0} (f : X → C) (o : Option X) → is_some (option_map f o) ≡ is_some o
mapped_some f None = refl
mapped_some f (Some x) = refl

unless_some : {C : Type 0} (b : Bool) (x : C) → is_some (cond b None (Some x)) ≡ not b
unless_some true x = refl
unless_some false x = refl

-- ---- the cards of the open type

abbrev specs_of : Option (Group RecordType InputSpec) → List InputSpec
specs_of o = option_map_or (λ g. g.followers) o []

following_is : (o : Option (Group RecordType InputSpec)) (own : List SpecCard) (file : Option (List ℕ)) (cards : List SpecCard) → specs_of o ≡ followers input_role own
    → specs_of (last_or o (groups_from input_role file cards)) ≡ followers input_role (after_last own cards)
following_is o own file [] e = e
following_is o own file (c ∷ cs) e = by (input_on c.spec) (λ k mine next same. following_is k mine next cs same)
  where
    by : (x : Option InputSpec)
        → ((k : Option (Group RecordType InputSpec)) (mine : List SpecCard) (next : Option (List ℕ)) → specs_of k ≡ followers input_role mine
        → specs_of (last_or k (groups_from input_role next cs)) ≡ followers input_role (after_last mine cs))
        → specs_of (last_or o (opening (role_on input_card_role x) file (followers input_role cs) (λ next. groups_from input_role next cs)))
        ≡ followers input_role (cond (is_some (option_and_then type_in x)) (after_last cs cs) (after_last own cs))
    by None rest = rest o own file e
    by (Some (input.Type t)) rest = rest (Some (record { heading = t; followers = followers input_role cs; file = option_or t.file file })) cs (option_or t.file file) refl
    by (Some (input.And codes)) rest = rest o own file e
    by (Some (input.Field f)) rest = rest o own file e

open_is : (before : List SpecCard) → open_specs before ≡ followers input_role (open_cards before)
open_is before = following_is None [] None before refl

-- ---- the first types

first_on-is : (level : ℕ) (file : Option (List ℕ)) (cards : List SpecCard) → first_length level (groups_from input_role file cards) ≡ option_map (λ (f : FirstLength). f.length) (first_on level cards)
first_on-is level file [] = refl
first_on-is level file (c ∷ cs) = by (input_on c.spec) (λ next. first_on-is level next cs)
  where
    own : (o : Option ℕ) (next : Option (List ℕ)) → ((next : Option (List ℕ)) → first_length level (groups_from input_role next cs) ≡ option_map (λ (f : FirstLength). f.length) (first_on level cs)) → option_or o (first_length level (groups_from input_role next cs)) ≡ option_map (λ (f : FirstLength). f.length) (option_or (option_map (length_on_card c) o) (first_on level cs))
    own None next rest = rest next
    own (Some n) next rest = refl

    by : (x : Option InputSpec) → ((next : Option (List ℕ)) → first_length level (groups_from input_role next cs) ≡ option_map (λ (f : FirstLength). f.length) (first_on level cs)) → first_length level (opening (role_on input_card_role x) file (followers input_role cs) (λ next. groups_from input_role next cs))
        ≡ option_map (λ (f : FirstLength). f.length)
        (cond (is_some (option_and_then type_in x)) (option_or (option_map (length_on_card c) (level_length level (followers input_role cs))) (first_on level cs)) (first_on level cs))
    by None rest = rest file
    by (Some (input.Type t)) rest = own (level_length level (followers input_role cs)) (option_or t.file file) rest
    by (Some (input.And codes)) rest = rest file
    by (Some (input.Field f)) rest = rest file

first_matched-is : (file : Option (List ℕ)) (cards : List SpecCard) → first_valid_matches (groups_from input_role file cards) ≡ option_map (λ (f : FirstMatched). f.lengths) (first_matched cards)
first_matched-is file [] = refl
first_matched-is file (c ∷ cs) = by (input_on c.spec) (λ next. first_matched-is next cs)
  where
    own : (o : Option (List ℕ)) (next : Option (List ℕ)) → ((next : Option (List ℕ)) → first_valid_matches (groups_from input_role next cs) ≡ option_map (λ (f : FirstMatched). f.lengths) (first_matched cs)) → option_or o (first_valid_matches (groups_from input_role next cs)) ≡ option_map (λ (f : FirstMatched). f.lengths) (option_or (option_map (matches_on_card c) o) (first_matched cs))
    own None next rest = rest next
    own (Some n) next rest = refl

    by : (x : Option InputSpec) → ((next : Option (List ℕ)) → first_valid_matches (groups_from input_role next cs) ≡ option_map (λ (f : FirstMatched). f.lengths) (first_matched cs)) → first_valid_matches (opening (role_on input_card_role x) file (followers input_role cs) (λ next. groups_from input_role next cs))
        ≡ option_map (λ (f : FirstMatched). f.lengths) (cond (is_some (option_and_then type_in x)) (option_or (option_map (matches_on_card c) (valid_matches (matched cs))) (first_matched cs)) (first_matched cs))
    by None rest = rest file
    by (Some (input.Type t)) rest = own (valid_matches (matched cs)) (option_or t.file file) rest
    by (Some (input.And codes)) rest = rest file
    by (Some (input.Field f)) rest = rest file

-- ---- a type

of_lengths-some : (level : ℕ) (f : Option FirstLength) (own : Option ℕ) → is_some (of_lengths level f own) ≡ lengths_differ (option_map (λ (f : FirstLength). f.length) f) own
of_lengths-some level None own = refl
of_lengths-some level (Some f) None = refl
of_lengths-some level (Some f) (Some n) = unless_some (f.length == n) (OtherLength level n f.length f.card)

first_cause-some : {X C : Type 0} (cause : X → Option C) (test : X → Bool) → ((x : X) → is_some (cause x) ≡ test x) → (xs : List X) → is_some (first_cause_in_list cause xs) ≡ list_any test xs
first_cause-some cause test each [] = refl
first_cause-some cause test each (x ∷ xs) =
    or_some (cause x) (first_cause_in_list cause xs) ∙ ap (λ b. b || is_some (first_cause_in_list cause xs)) (each x) ∙ ap (λ b. test x || b) (first_cause-some cause test each xs)

lengths_rule : (before after : List SpecCard) → is_some (other_length before after) ≡ has_other_lengths before after
lengths_rule before after =
    first_cause-some (of_level before after) (λ level. lengths_differ (first_length level (groups input_role before)) (level_length level (followers input_role after)))
    (λ level. of_lengths-some level (first_on level before) (level_length level (followers input_role after)) ∙ ap (λ m. lengths_differ m (level_length level (followers input_role after))) (sym (first_on-is level None before)))
    levels

apart-some : (card level : ℕ) (ms ns : List ℕ) → is_some (first_difference card level ms ns) ≡ not (pointwise nat_eq ms ns)
apart-some card level [] [] = refl
apart-some card level [] (n ∷ ns) = refl
apart-some card level (m ∷ ms) [] = refl
apart-some card level (m ∷ ms) (n ∷ ns) = by (m == n) (apart-some card (level + 1) ms ns)
  where
    by : (b : Bool) → is_some (first_difference card (level + 1) ms ns) ≡ not (pointwise nat_eq ms ns) → is_some (cond b (first_difference card (level + 1) ms ns) (Some (OtherMatches level n m card))) ≡ not (b && pointwise nat_eq ms ns)
    by true rest = rest
    by false rest = refl

of_matches-some : (f : Option FirstMatched) (own : Option (List ℕ)) → is_some (of_matches f own) ≡ matches_differ (option_map (λ (f : FirstMatched). f.lengths) f) own
of_matches-some None own = refl
of_matches-some (Some f) None = refl
of_matches-some (Some f) (Some ns) = apart-some f.card 1 f.lengths ns

matches_rule : (before after : List SpecCard) → is_some (other_matches before after) ≡ has_other_matches before after
matches_rule before after =
    of_matches-some (first_matched before) (valid_matches (matched after)) ∙ ap (λ ms. matches_differ ms (valid_matches (matched after))) (sym (first_matched-is None before))

-- ---- a field

pub matched_on_some : (level : ℕ) (cards : List SpecCard) → is_some (matched_on level cards) ≡ list_any (is_at match_level level) (matched cards)
matched_on_some level [] = refl
matched_on_some level (c ∷ cs) = by (input_on c.spec) (matched_on_some level cs)
  where
    at : (f : InputFieldSpec) → is_some (matched_on level cs) ≡ list_any (is_at match_level level) (matched cs) → is_some (option_or (cond (is_at match_level level f) (Some c.number) None) (matched_on level cs)) ≡ (is_at match_level level f || list_any (is_at match_level level) (matched cs))
    at f rest =
        or_some (cond (is_at match_level level f) (Some c.number) None) (matched_on level cs)
        ∙ ap (λ b. b || is_some (matched_on level cs)) (if_some (is_at match_level level f) c.number)
        ∙ ap (λ b. is_at match_level level f || b) rest

    kept : (f : InputFieldSpec) (o : Option ℕ) → f.match_level ≡ o → (is_at match_level level f || list_any (is_at match_level level) (matched cs)) ≡ list_any (is_at match_level level) (cond (is_some o) (f ∷ matched cs) (matched cs))
    kept f None e = ap (λ o. option_map_or (λ l. l == level) o false || list_any (is_at match_level level) (matched cs)) e
    kept f (Some n) e = refl

    by : (x : Option InputSpec) → is_some (matched_on level cs) ≡ list_any (is_at match_level level) (matched cs) → is_some (cond (is_some (option_and_then type_in x)) None (option_or (option_and_then (λ f. cond (is_at match_level level f) (Some c.number) None) (option_and_then input_field_in x)) (matched_on level cs)))
        ≡ list_any (is_at match_level level) (matched_fields (followers_with (role_on input_card_role x) (followers input_role cs)))
    by None rest = rest
    by (Some (input.Type t)) rest = refl
    by (Some (input.And codes)) rest = rest
    by (Some (input.Field f)) rest = at f rest ∙ kept f f.match_level refl

level_rule : (before : List SpecCard) (f : InputFieldSpec) → is_some (level_cause (open_cards before) f) ≡ passes_length before f
level_rule before f = by f.level
  where
    long : (level k : ℕ) → k ≡ joined_length level (open_specs before) → is_some (long_level level k (input_columns f)) ≡ (nat_le (joined_length level (open_specs before)) 256 && nat_lt 256 (joined_length level (open_specs before) + input_columns f))
    long level k e = if_some (nat_le k 256 && nat_lt 256 (k + input_columns f)) (LongLevel level (k + input_columns f)) ∙ ap (λ n. nat_le n 256 && nat_lt 256 (n + input_columns f)) e

    by : (o : Option ℕ) → is_some (option_and_then (λ level. long_level level (joined_length level (followers input_role (open_cards before))) (input_columns f)) o)
        ≡ option_map_or (λ level. nat_le (joined_length level (open_specs before)) 256 && nat_lt 256 (joined_length level (open_specs before) + input_columns f)) o false
    by None = refl
    by (Some level) = long level (joined_length level (followers input_role (open_cards before))) (ap (joined_length level) (sym (open_is before)))

match_rule : (before : List SpecCard) (f : InputFieldSpec) → is_some (match_level_cause (open_cards before) f) ≡ refuses (open_matches before) f
match_rule before f = on (open_cards before) ∙ ap (λ specs. refuses (matched_fields specs) f) (sym (open_is before))
  where
    at : (own : List SpecCard) (level : ℕ) → is_some (of_match own f level)
        ≡ (list_any (is_at match_level level) (matched own) || (nat_le (sum_by input_columns (matched own)) 256 && nat_lt 256 (sum_by input_columns (matched own) + input_columns f)))
    at own level =
        let joined = sum_by input_columns (matched own) in
        let n = input_columns f in
        or_some (option_map (MatchedTwice level) (matched_on level own)) (long_matches joined n)
        ∙ ap (λ b. b || is_some (long_matches joined n)) (mapped_some (MatchedTwice level) (matched_on level own) ∙ matched_on_some level own)
        ∙ ap (λ b. list_any (is_at match_level level) (matched own) || b) (if_some (nat_le joined 256 && nat_lt 256 (joined + n)) (LongMatches (joined + n)))

    on : (own : List SpecCard) → is_some (match_level_cause own f) ≡ refuses (matched own) f
    on own = by f.match_level
      where
        by : (o : Option ℕ) → is_some (option_and_then (of_match own f) o)
            ≡ (option_map_or (λ level. list_any (is_at match_level level) (matched own)) o false
            || (is_some o && (nat_le (sum_by input_columns (matched own)) 256 && nat_lt 256 (sum_by input_columns (matched own) + input_columns f))))
        by None = refl
        by (Some level) = at own level

-- ---- both

pub join_rule : (before : List SpecCard) (c : SpecCard) (after : List SpecCard) → is_some (join_cause before c after) ≡ option_map_or (joins_badly before after) (input_on c.spec) false
unfolding join_cause
join_rule before c after = by (input_on c.spec)
  where
    by : (x : Option InputSpec) → is_some (option_and_then (input_join_cause before after) x) ≡ option_map_or (joins_badly before after) x false
    by None = refl
    by (Some (input.Type t)) =
        or_some (other_length before after) (other_matches before after)
        ∙ ap (λ b. b || is_some (other_matches before after)) (lengths_rule before after)
        ∙ ap (λ b. has_other_lengths before after || b) (matches_rule before after)
    by (Some (input.And codes)) = refl
    by (Some (input.Field f)) =
        or_some (level_cause (open_cards before) f) (match_level_cause (open_cards before) f)
        ∙ ap (λ b. b || is_some (match_level_cause (open_cards before) f)) (level_rule before f)
        ∙ ap (λ b. passes_length before f || b) (match_rule before f)

-- ---- match fields that are valid

swapped : (a b c d : Bool) → ((a || b) || (c || d)) ≡ ((a || c) || (b || d))
swapped true b c d = refl
swapped false true true d = refl
swapped false true false d = refl
swapped false false true d = refl
swapped false false false d = refl

any_bad-is : (fs : List InputFieldSpec) → any_bad fs ≡ (has_bad fs || has_twice fs)
any_bad-is [] = refl
any_bad-is (f ∷ fs) =
    ap (λ b. (input_columns f == 0 || repeats fs f) || b) (any_bad-is fs) ∙ swapped (input_columns f == 0) (repeats fs f) (has_bad fs) (has_twice fs)

pub valid_lengths-is : (fs : List InputFieldSpec) → valid_lengths fs ≡ valid_matches fs
valid_lengths-is [] = refl
valid_lengths-is (f ∷ fs) = ap (λ b. cond (not b) (Some (match_lengths (f ∷ fs))) None) (any_bad-is (f ∷ fs)) ∙ by (has_bad (f ∷ fs) || has_twice (f ∷ fs))
  where
    by : (b : Bool) → cond (not b) (Some (match_lengths (f ∷ fs))) None ≡ cond b None (Some (match_lengths (f ∷ fs)))
    by true = refl
    by false = refl

-- ---- with the card's own columns

apart_from : (a b q r : Bool) → (((a || b) || q) || r) ≡ (((a || q) || r) || b)
apart_from true b q r = refl
apart_from false true true r = refl
apart_from false true false true = refl
apart_from false true false false = refl
apart_from false false true r = refl
apart_from false false false true = refl
apart_from false false false false = refl

pub misplaces_is : (cards before : List SpecCard) (c : SpecCard) (after : List SpecCard)
    → misplaces cards before c after ≡ (is_outside cards before c || option_map_or (joins_badly before after) (input_on c.spec) false)
misplaces_is cards before c after =
    by (input_on c.spec) (option_map_or (outside_line cards (file_by (open_file output_role before) cards)) (output_field_on c.spec) false)
    (option_map_or (λ (r : OutputRecord). outside_page cards (file_by (option_or r.file (open_file output_role before)) cards) r.movement) (output_record_on c.spec) false)
  where
    by : (x : Option InputSpec) (q r : Bool) → ((option_map_or (λ i. outside_on_input (file_by (own_file before i) cards) i || joins_badly before after i) x false || q) || r)
        ≡ (((option_map_or (λ i. outside_on_input (file_by (own_file before i) cards) i) x false || q) || r) || option_map_or (joins_badly before after) x false)
    by None q r = apart_from false false q r
    by (Some i) q r = apart_from (outside_on_input (file_by (own_file before i) cards) i) (joins_badly before after i) q r
