-- The match fields of record types, card by card.
use Rattle.std.proofs.Common.{◌≡◌, ◌≢◌, ℕ, ◌+◌, ◌-◌, ◌≤◌, ◌<◌, ◌⊎◌, inl, inr, min, Bool, true, false, cond, ◌||◌, ◌&&◌, List, [], ◌∷◌, ◌++◌, map, length, get_or, Option, None, Some, refl, sym, ap, ◌∙◌, arith, eq-eqb, ne_eqb, ◌==◌, append-nil, append_assoc}
use Rattle.std.proofs.lemmas.Bool.{lt-leb}
use Rattle.std.proofs.lemmas.Bool.Decides.{leb_tells}
use Rattle.std.specs.Prelude.{is_some, nat_le, nat_lt, unwrap_or}
use Rattle.std.proofs.Math.Bool.{or-false}
use Rattle.std.proofs.Math.ListN.{set}
use Rattle.std.proofs.lemmas.List.Elements.{filter-append, filter_map-append}
use Rattle.std.proofs.lemmas.List.Folds.{list_any-append}
use Rattle.std.proofs.lemmas.List.Sums.{sum_by-append}
use Rattle.std.specs.List.{filter, list_any, sum_by}
use Rattle.std.specs.Option.{option_map, option_map_or, option_or}
use Rattle.rpg_cards.proofs.GroupLemmas.{one_if_heading}
use Rattle.rpg_cards.specs.Cards.{input_field_in}
use Rattle.rpg_cards.specs.Groups.{Apart, Follower, Group, Heading, Role, followers, followers_with, groups, input_role, open_group}
use Rattle.rpg_cards.specs.Levels.{input_fields, is_at, is_match_field, match_level}
use Rattle.rpg_cards.specs.declared.spec_card.SpecCard.{SpecCard}
use Rattle.rpg_faults_places.proofs.LevelLemmas.{item_at, set_level}
use Rattle.rpg_faults_places.proofs.OpenTypes.{open_apart, open_follower, open_heading, type_group, types_before, types_other, types_with}
use Rattle.rpg_faults_places.specs.Lengths.{input_specs_in}
use Rattle.rpg_faults_places.specs.Matches.{AreValid, AreMatches, AreWith, first_of_types, has_match_level, matches_of}
use Rattle.rpg_faults_places.specs.Places.{first_valid_matches, valid_matches, has_bad, has_twice, input_columns, levels, matched_fields, match_lengths, passes_matches, repeats}
use Rattle.rpg_faults_places.specs.declared.matches.Matches.{Matches}
use Rattle.rpg_faults_places.specs.declared.matches.OpenMatches.{OpenMatches}
use Rattle.rpg_sheet_specs.specs.declared.indicator.Three.{Three}
use Rattle.rpg_sheet_specs.specs.declared.input.InputFieldSpec.{InputFieldSpec}
use Rattle.rpg_sheet_specs.specs.declared.input.InputSpec.{InputSpec}
use Rattle.rpg_sheet_specs.specs.declared.input.InputSpec.TheVariants as input
use Rattle.rpg_sheet_specs.specs.declared.input.RecordCode.{RecordCode}
use Rattle.rpg_sheet_specs.specs.declared.input.RecordType.{RecordType}

-- ---- a level among the match fields

at_own : (n : ℕ) (f : InputFieldSpec) → f.match_level ≡ Some n → is_at match_level n f ≡ true
at_own n f at = ap (λ o. option_map_or (λ l. l == n) o false) at ∙ eq-eqb n n refl

at_other : (level n : ℕ) (f : InputFieldSpec) → f.match_level ≡ Some n → level ≢ n → is_at match_level level f ≡ false
at_other level n f at other = ap (λ o. option_map_or (λ l. l == level) o false) at ∙ ne_eqb n level (λ e. other (sym e))

repeats_at : (fs : List InputFieldSpec) (f : InputFieldSpec) (n : ℕ) → f.match_level ≡ Some n → repeats fs f ≡ has_match_level fs n
repeats_at fs f n at = ap (λ o. option_map_or (λ level. list_any (is_at match_level level) fs) o false) at

-- with one more field
has_level-push : (level : ℕ) (fs : List InputFieldSpec) (f : InputFieldSpec) → has_match_level (fs ++ f ∷ []) level ≡ (has_match_level fs level || is_at match_level level f)
has_level-push level fs f = list_any-append (is_at match_level level) fs (f ∷ []) ∙ ap (λ b. has_match_level fs level || b) (or-false (is_at match_level level f))

or_true : (b : Bool) → (b || true) ≡ true
or_true true = refl
or_true false = refl

has_levels-push : (fs : List InputFieldSpec) (f : InputFieldSpec) (n : ℕ) → f.match_level ≡ Some n → 1 ≤ n → n ≤ 9 → set (map (has_match_level fs) levels) (n - 1) true ≡ map (has_match_level (fs ++ f ∷ [])) levels
has_levels-push fs f n at low high = set_level (has_match_level fs) (has_match_level (fs ++ f ∷ [])) false n true low high new old
  where
    new : true ≡ has_match_level (fs ++ f ∷ []) n
    new = sym (has_level-push n fs f ∙ ap (λ b. has_match_level fs n || b) (at_own n f at) ∙ or_true (has_match_level fs n))

    old : (level : ℕ) → level ≢ n → has_match_level (fs ++ f ∷ []) level ≡ has_match_level fs level
    old level other = has_level-push level fs f ∙ ap (λ b. has_match_level fs level || b) (at_other level n f at other) ∙ or-false (has_match_level fs level)

-- ---- lengths

abbrev pub length_at : List InputFieldSpec → ℕ → ℕ
length_at fs level = sum_by input_columns (filter (is_at match_level level) fs)

length_at-push : (level : ℕ) (fs : List InputFieldSpec) (f : InputFieldSpec) → length_at (fs ++ f ∷ []) level ≡ length_at fs level + length_at (f ∷ []) level
length_at-push level fs f = ap (sum_by input_columns) (filter-append (is_at match_level level) fs (f ∷ [])) ∙ sum_by-append input_columns (filter (is_at match_level level) fs) (filter (is_at match_level level) (f ∷ []))

length_at-one : (level : ℕ) (f : InputFieldSpec) (b : Bool) → is_at match_level level f ≡ b → length_at (f ∷ []) level ≡ cond b (input_columns f) 0
length_at-one level f true is = ap (λ b. sum_by input_columns (cond b (f ∷ []) [])) is ∙ omega arith
length_at-one level f false is = ap (λ b. sum_by input_columns (cond b (f ∷ []) [])) is

match_lengths-push : (fs : List InputFieldSpec) (f : InputFieldSpec) (n : ℕ) → f.match_level ≡ Some n → 1 ≤ n → n ≤ 9 → length_at fs n ≡ 0 → set (match_lengths fs) (n - 1) (input_columns f) ≡ match_lengths (fs ++ f ∷ [])
match_lengths-push fs f n at low high none = set_level (length_at fs) (length_at (fs ++ f ∷ [])) 0 n (input_columns f) low high new old
  where
    new : input_columns f ≡ length_at (fs ++ f ∷ []) n
    new =
        let push = length_at-push n fs f in
        let own = length_at-one n f true (at_own n f at) in
        omega arith

    old : (level : ℕ) → level ≢ n → length_at (fs ++ f ∷ []) level ≡ length_at fs level
    old level other =
        let push = length_at-push level fs f in
        let own = length_at-one level f false (at_other level n f at other) in
        omega arith

-- ---- where all columns are valid, a level has a length exactly where it is there

bad_first : (f : InputFieldSpec) (fs : List InputFieldSpec) → has_bad (f ∷ fs) ≡ false → (has_bad fs ≡ false) × (input_columns f ≢ 0)
bad_first f fs valid = by (input_columns f == 0) refl valid
  where
    by : (b : Bool) → (input_columns f == 0) ≡ b → (b || has_bad fs) ≡ false → (has_bad fs ≡ false) × (input_columns f ≢ 0)
    by true e h = cc
    by false e h = (h, λ zero. let same = eq-eqb (input_columns f) 0 zero in cc)

length_none : (level : ℕ) (fs : List InputFieldSpec) → has_match_level fs level ≡ false → length_at fs level ≡ 0
length_none level [] none = refl
length_none level (f ∷ fs) none = by (is_at match_level level f) refl none (length_none level fs)
  where
    by : (b : Bool) → is_at match_level level f ≡ b → (b || has_match_level fs level) ≡ false → (has_match_level fs level ≡ false → length_at fs level ≡ 0) → length_at (f ∷ fs) level ≡ 0
    by true e h rest = cc
    by false e h rest = ap (λ b. sum_by input_columns (cond b (f ∷ filter (is_at match_level level) fs) (filter (is_at match_level level) fs))) e ∙ rest h

length_some : (level : ℕ) (fs : List InputFieldSpec) → has_bad fs ≡ false → has_match_level fs level ≡ true → length_at fs level ≢ 0
length_some level [] valid is = cc
length_some level (f ∷ fs) valid is = by (is_at match_level level f) refl is (length_some level fs (bad_first f fs valid).0)
  where
    first : (has_bad fs ≡ false) × (input_columns f ≢ 0)
    first = bad_first f fs valid

    by : (b : Bool) → is_at match_level level f ≡ b → (b || has_match_level fs level) ≡ true → (has_match_level fs level ≡ true → length_at fs level ≢ 0) → length_at (f ∷ fs) level ≢ 0
    by true e h rest = λ zero.
        let own : length_at (f ∷ fs) level ≡ sum_by input_columns (f ∷ filter (is_at match_level level) fs) = ap (λ b. sum_by input_columns (cond b (f ∷ filter (is_at match_level level) fs) (filter (is_at match_level level) fs))) e in
        let both : sum_by input_columns (f ∷ filter (is_at match_level level) fs) ≡ (0 + input_columns f) + length_at fs level = sum_by-append input_columns (f ∷ []) (filter (is_at match_level level) fs) in
        first.1 (omega arith)
    by false e h rest = λ zero. rest h (sym (ap (λ b. sum_by input_columns (cond b (f ∷ filter (is_at match_level level) fs) (filter (is_at match_level level) fs))) e) ∙ zero)

-- a level without a length isn't there
pub level_free : (level : ℕ) (fs : List InputFieldSpec) → has_bad fs ≡ false → length_at fs level ≡ 0 → has_match_level fs level ≡ false
level_free level fs valid none = by (has_match_level fs level) refl
  where
    by : (b : Bool) → has_match_level fs level ≡ b → b ≡ false
    by true e = let some = length_some level fs valid e in absurd (some none)
    by false e = refl

pub level_taken : (level : ℕ) (fs : List InputFieldSpec) → length_at fs level ≢ 0 → has_match_level fs level ≡ true
level_taken level fs some = by (has_match_level fs level) refl
  where
    by : (b : Bool) → has_match_level fs level ≡ b → b ≡ true
    by true e = refl
    by false e = absurd (some (length_none level fs e))

-- ---- a level that stands twice

-- two fields of one level
is_same : InputFieldSpec → InputFieldSpec → Bool
is_same f g = option_map_or (λ level. is_at match_level level g) f.match_level false

eqb_sym : (a b : ℕ) → (a == b) ≡ (b == a)
eqb_sym a b = grind (arith)

same_sym : (f g : InputFieldSpec) → is_same f g ≡ is_same g f
unfolding is_same
same_sym f g = by f.match_level g.match_level
  where
    by : (a b : Option ℕ) → option_map_or (λ level. option_map_or (λ l. l == level) b false) a false ≡ option_map_or (λ level. option_map_or (λ l. l == level) a false) b false
    by None None = refl
    by None (Some n) = refl
    by (Some m) None = refl
    by (Some m) (Some n) = eqb_sym n m

repeats-append : (fs gs : List InputFieldSpec) (f : InputFieldSpec) → repeats (fs ++ gs) f ≡ (repeats fs f || repeats gs f)
repeats-append fs gs f = by f.match_level
  where
    by : (o : Option ℕ) → option_map_or (λ level. list_any (is_at match_level level) (fs ++ gs)) o false
        ≡ (option_map_or (λ level. list_any (is_at match_level level) fs) o false || option_map_or (λ level. list_any (is_at match_level level) gs) o false)
    by None = refl
    by (Some level) = list_any-append (is_at match_level level) fs gs

repeats-cons : (x : InputFieldSpec) (fs : List InputFieldSpec) (f : InputFieldSpec) → repeats (x ∷ fs) f ≡ (is_same f x || repeats fs f)
unfolding is_same
repeats-cons x fs f = by f.match_level
  where
    by : (o : Option ℕ) → option_map_or (λ level. list_any (is_at match_level level) (x ∷ fs)) o false
        ≡ (option_map_or (λ level. is_at match_level level x) o false || option_map_or (λ level. list_any (is_at match_level level) fs) o false)
    by None = refl
    by (Some level) = refl

repeats-nil : (f : InputFieldSpec) → repeats [] f ≡ false
repeats-nil f = by f.match_level
  where
    by : (o : Option ℕ) → option_map_or (λ level. list_any (is_at match_level level) []) o false ≡ false
    by None = refl
    by (Some level) = refl

repeats-one : (x f : InputFieldSpec) → repeats (x ∷ []) f ≡ is_same f x
repeats-one x f = repeats-cons x [] f ∙ ap (λ b. is_same f x || b) (repeats-nil f) ∙ or-false (is_same f x)

swapped : (a b c d : Bool) → ((a || b) || (c || d)) ≡ ((a || c) || (b || d))
swapped true b c d = refl
swapped false true true d = refl
swapped false true false d = refl
swapped false false true d = refl
swapped false false false d = refl

-- with one more field
pub has_twice-push : (fs : List InputFieldSpec) (f : InputFieldSpec) → has_twice (fs ++ f ∷ []) ≡ (has_twice fs || repeats fs f)
has_twice-push [] f = or-false (repeats [] f) ∙ repeats-nil f ∙ sym (repeats-nil f)
has_twice-push (x ∷ fs) f =
    let one = repeats-append fs (f ∷ []) x ∙ ap (λ b. repeats fs x || b) (repeats-one f x ∙ same_sym x f) in
    let rest = has_twice-push fs f in
    let first = repeats-cons x fs f in
    ap (λ b. b || has_twice (fs ++ f ∷ [])) one ∙ ap (λ b. (repeats fs x || is_same f x) || b) rest
    ∙ swapped (repeats fs x) (is_same f x) (has_twice fs) (repeats fs f) ∙ ap (λ b. (repeats fs x || has_twice fs) || b) (sym first)

pub has_twice-append : (fs gs : List InputFieldSpec) → has_twice fs ≡ true → has_twice (fs ++ gs) ≡ true
has_twice-append [] gs is = cc
has_twice-append (x ∷ fs) gs is = by (repeats fs x) refl is (has_twice-append fs gs)
  where
    by : (b : Bool) → repeats fs x ≡ b → (b || has_twice fs) ≡ true → (has_twice fs ≡ true → has_twice (fs ++ gs) ≡ true) → (repeats (fs ++ gs) x || has_twice (fs ++ gs)) ≡ true
    by true e h rest = ap (λ b. b || has_twice (fs ++ gs)) (repeats-append fs gs x ∙ ap (λ b. b || repeats gs x) e)
    by false e h rest = ap (λ b. repeats (fs ++ gs) x || b) (rest h) ∙ or_true (repeats (fs ++ gs) x)

-- ---- the match fields of further cards

match_fields-append : (some more : List InputSpec) → matched_fields (some ++ more) ≡ matched_fields some ++ matched_fields more
match_fields-append some more = ap (filter is_match_field) (filter_map-append input_field_in some more) ∙ filter-append is_match_field (input_fields some) (input_fields more)

match_field-one : (f : InputFieldSpec) (n : ℕ) (specs : List InputSpec) → f.match_level ≡ Some n → matched_fields (input.Field f ∷ specs) ≡ f ∷ matched_fields specs
match_field-one f n specs at = ap (λ (o : Option ℕ). cond (is_some o) (f ∷ matched_fields specs) (matched_fields specs)) at

match_field-none : (f : InputFieldSpec) (specs : List InputSpec) → f.match_level ≡ None → matched_fields (input.Field f ∷ specs) ≡ matched_fields specs
match_field-none f specs none = ap (λ (o : Option ℕ). cond (is_some o) (f ∷ matched_fields specs) (matched_fields specs)) none

-- ---- the open type with a further field

abbrev matches_in : List InputFieldSpec → OpenMatches
matches_in fs = record { levels = map (has_match_level fs) levels; length = min (sum_by input_columns fs) 65535 }

pub matches_without : (m : OpenMatches) (specs : List InputSpec) (f : InputFieldSpec) → m ≡ matches_of specs → f.match_level ≡ None → m ≡ matches_of (specs ++ input.Field f ∷ [])
matches_without m specs f is none = is ∙ ap matches_in (sym (match_fields-append specs (input.Field f ∷ []) ∙ ap (λ fs. matched_fields specs ++ fs) (match_field-none f [] none) ∙ append-nil (matched_fields specs)))

pub matches_with : (m : OpenMatches) (specs : List InputSpec) (f : InputFieldSpec) (n columns length : ℕ) → m ≡ matches_of specs → f.match_level ≡ Some n → 1 ≤ n → n ≤ 9 → columns ≡ input_columns f
    → length ≡ min (m.length + columns) 65535 → record { levels = set m.levels (n - 1) true; length = length } ≡ matches_of (specs ++ input.Field f ∷ [])
matches_with m specs f n columns length is at low high of long =
    ap (λ (ls : List Bool). record { levels = ls; length = length }) some_levels ∙ ap (λ k. record { levels = map (has_match_level (fs ++ f ∷ [])) levels; length = k }) some_length ∙ ap matches_in (sym more)
  where
    fs : List InputFieldSpec
    fs = matched_fields specs

    more : matched_fields (specs ++ input.Field f ∷ []) ≡ matched_fields specs ++ f ∷ []
    more = match_fields-append specs (input.Field f ∷ []) ∙ ap (λ xs. matched_fields specs ++ xs) (match_field-one f n [] at)

    some_levels : set m.levels (n - 1) true ≡ map (has_match_level (matched_fields specs ++ f ∷ [])) levels
    some_levels = ap (λ (x : OpenMatches). set x.levels (n - 1) true) is ∙ has_levels-push (matched_fields specs) f n at low high

    some_length : length ≡ min (sum_by input_columns (matched_fields specs ++ f ∷ [])) 65535
    some_length =
        let was : m.length ≡ min (sum_by input_columns (matched_fields specs)) 65535 = ap (λ (x : OpenMatches). x.length) is in
        let all : sum_by input_columns (matched_fields specs ++ f ∷ []) ≡ sum_by input_columns (matched_fields specs) + (0 + input_columns f) = sum_by-append input_columns (matched_fields specs) (f ∷ []) in
        omega arith

no_matches : record { levels = false ∷ false ∷ false ∷ false ∷ false ∷ false ∷ false ∷ false ∷ false ∷ []; length = 0 } ≡ matches_of []
unfolding levels
no_matches = refl

-- the level is there
pub level_in : (m : OpenMatches) (specs : List InputSpec) (f : InputFieldSpec) (n : ℕ) → m ≡ matches_of specs → f.match_level ≡ Some n → 1 ≤ n → n ≤ 9 → get_or m.levels (n - 1) false ≡ repeats (matched_fields specs) f
level_in m specs f n is at low high =
    ap (λ (x : OpenMatches). get_or x.levels (n - 1) false) is ∙ item_at (has_match_level (matched_fields specs)) n false low high ∙ sym (repeats_at (matched_fields specs) f n at)

-- the length of all, capped or not
same_tests : (s c : ℕ) → (nat_le (min s 65535) 256 && nat_lt 256 (min s 65535 + c)) ≡ (nat_le s 256 && nat_lt 256 (s + c))
same_tests s c = by (leb_tells s 256)
  where
    by : ((nat_le s 256 ≡ true) × (s ≤ 256)) ⊎ ((nat_le s 256 ≡ false) × (256 < s)) → (nat_le (min s 65535) 256 && nat_lt 256 (min s 65535 + c)) ≡ (nat_le s 256 && nat_lt 256 (s + c))
    by (inl (e, few)) = let same : min s 65535 ≡ s = omega arith in ap (λ k. nat_le k 256 && nat_lt 256 (k + c)) same
    by (inr (e, many)) =
        let past : 256 < min s 65535 = omega arith in
        ap (λ b. b && nat_lt 256 (min s 65535 + c)) (lt-leb (min s 65535) 256 past) ∙ sym (ap (λ b. b && nat_lt 256 (s + c)) e)

-- a field that the open type refuses, by what is kept of it
pub refused : (m : OpenMatches) (specs : List InputSpec) (f : InputFieldSpec) (n columns : ℕ) (there : Bool) → m ≡ matches_of specs → f.match_level ≡ Some n → 1 ≤ n → n ≤ 9 → columns ≡ input_columns f
    → there ≡ get_or m.levels (n - 1) false
    → (there || (nat_le m.length 256 && nat_lt 256 (m.length + columns))) ≡ (repeats (matched_fields specs) f || passes_matches (matched_fields specs) f)
refused m specs f n columns there is at low high of has =
    ap (λ b. b || (nat_le m.length 256 && nat_lt 256 (m.length + columns))) (has ∙ level_in m specs f n is at low high)
    ∙ ap (λ (x : OpenMatches). repeats (matched_fields specs) f || (nat_le x.length 256 && nat_lt 256 (x.length + columns))) is
    ∙ ap (λ b. repeats (matched_fields specs) f || b) (same_tests (sum_by input_columns (matched_fields specs)) columns)
    ∙ ap (λ k. repeats (matched_fields specs) f || (nat_le (sum_by input_columns (matched_fields specs)) 256 && nat_lt 256 (sum_by input_columns (matched_fields specs) + k))) of
    ∙ sym (ap (λ (o : Option ℕ). repeats (matched_fields specs) f || (is_some o && (nat_le (sum_by input_columns (matched_fields specs)) 256 && nat_lt 256 (sum_by input_columns (matched_fields specs) + input_columns f)))) at)

pub not_refused : (fs : List InputFieldSpec) (f : InputFieldSpec) → f.match_level ≡ None → false ≡ (repeats fs f || passes_matches fs f)
not_refused fs f none =
    sym (ap (λ (o : Option ℕ). option_map_or (λ level. list_any (is_at match_level level) fs) o false || (is_some o && (nat_le (sum_by input_columns fs) 256 && nat_lt 256 (sum_by input_columns fs + input_columns f)))) none)

-- ---- a type's match fields, one by one

valid_cons : (f : InputFieldSpec) (fs : List InputFieldSpec) → has_bad (f ∷ fs) ≡ false → has_twice (f ∷ fs) ≡ false → valid_matches (f ∷ fs) ≡ Some (match_lengths (f ∷ fs))
valid_cons f fs valid once =
    ap (λ b. cond (b || has_twice (f ∷ fs)) None (Some (match_lengths (f ∷ fs)))) valid ∙ ap (λ b. cond b None (Some (match_lengths (f ∷ fs)))) once

valid_push : (fs : List InputFieldSpec) (f : InputFieldSpec) → has_bad (fs ++ f ∷ []) ≡ false → has_twice (fs ++ f ∷ []) ≡ false → valid_matches (fs ++ f ∷ []) ≡ Some (match_lengths (fs ++ f ∷ []))
valid_push [] f valid once = valid_cons f [] valid once
valid_push (x ∷ xs) f valid once = valid_cons x (xs ++ f ∷ []) valid once

bad_none : (fs : List InputFieldSpec) → has_bad fs ≡ true → valid_matches fs ≡ None
bad_none [] is = refl
bad_none (f ∷ fs) is = ap (λ b. cond (b || has_twice (f ∷ fs)) None (Some (match_lengths (f ∷ fs)))) is

twice_none : (fs : List InputFieldSpec) → has_twice fs ≡ true → valid_matches fs ≡ None
twice_none [] is = refl
twice_none (f ∷ fs) is = ap (λ b. cond (has_bad (f ∷ fs) || b) None (Some (match_lengths (f ∷ fs)))) is ∙ ap (λ b. cond b None (Some (match_lengths (f ∷ fs)))) (or_true (has_bad (f ∷ fs)))

nine_zeros : 0 ∷ 0 ∷ 0 ∷ 0 ∷ 0 ∷ 0 ∷ 0 ∷ 0 ∷ 0 ∷ [] ≡ match_lengths []
unfolding levels
nine_zeros = refl

lengths_so_far : (fs : List InputFieldSpec) (found : Option (List ℕ)) → AreValid fs found → unwrap_or found (0 ∷ 0 ∷ 0 ∷ 0 ∷ 0 ∷ 0 ∷ 0 ∷ 0 ∷ 0 ∷ []) ≡ match_lengths fs
lengths_so_far [] found valid = ap (λ o. unwrap_or o (0 ∷ 0 ∷ 0 ∷ 0 ∷ 0 ∷ 0 ∷ 0 ∷ 0 ∷ 0 ∷ [])) valid.lengths ∙ nine_zeros
lengths_so_far (f ∷ fs) found valid = ap (λ o. unwrap_or o (0 ∷ 0 ∷ 0 ∷ 0 ∷ 0 ∷ 0 ∷ 0 ∷ 0 ∷ 0 ∷ [])) (valid.lengths ∙ valid_cons f fs valid.columns valid.once)

module _ (fs : List InputFieldSpec) (f : InputFieldSpec) (found : Option (List ℕ)) (lengths : List ℕ) (n columns : ℕ) (valid : AreValid fs found)
    (are : lengths ≡ unwrap_or found (0 ∷ 0 ∷ 0 ∷ 0 ∷ 0 ∷ 0 ∷ 0 ∷ 0 ∷ 0 ∷ [])) (at : f.match_level ≡ Some n) (low : 1 ≤ n) (high : n ≤ 9) (of : columns ≡ input_columns f) where
  length_is : get_or lengths (n - 1) 0 ≡ length_at fs n
  length_is = ap (λ ls. get_or ls (n - 1) 0) (are ∙ lengths_so_far fs found valid) ∙ item_at (length_at fs) n 0 low high

  pub without_columns : columns ≡ 0 → AreWith fs f None
  without_columns zero = λ rest.
      let bad : (input_columns f == 0) ≡ true = eq-eqb (input_columns f) 0 (sym of ∙ zero) in
      bad_none (fs ++ f ∷ rest)
      (list_any-append (λ f. input_columns f == 0) fs (f ∷ rest) ∙ ap (λ b. has_bad fs || (b || has_bad rest)) bad ∙ or_true (has_bad fs))

  pub with_taken : get_or lengths (n - 1) 0 ≢ 0 → AreWith fs f None
  with_taken some = λ rest.
      let taken : has_match_level fs n ≡ true = level_taken n fs (λ zero. some (length_is ∙ zero)) in
      let twice : has_twice (fs ++ f ∷ []) ≡ true = has_twice-push fs f ∙ ap (λ b. has_twice fs || b) (repeats_at fs f n at ∙ taken) ∙ or_true (has_twice fs) in
      twice_none (fs ++ f ∷ rest) (ap has_twice (sym (append_assoc fs (f ∷ []) rest)) ∙ has_twice-append (fs ++ f ∷ []) rest twice)

  pub with_free : columns ≢ 0 → get_or lengths (n - 1) 0 ≡ 0 → AreWith fs f (Some (set lengths (n - 1) columns))
  with_free some none = record {
    columns = still_valid;
    once = still_once;
    lengths = ap (λ ls. Some ls) (ap (λ ls. set ls (n - 1) columns) (are ∙ lengths_so_far fs found valid) ∙ ap (λ k. set (match_lengths fs) (n - 1) k) of ∙ match_lengths-push fs f n at low high zero)
        ∙ sym (valid_push fs f still_valid still_once);
  }
    where
      zero : length_at fs n ≡ 0
      zero = sym length_is ∙ none

      still_valid : has_bad (fs ++ f ∷ []) ≡ false
      still_valid =
          let here : (input_columns f == 0) ≡ false = ne_eqb (input_columns f) 0 (λ e. some (of ∙ e)) in
          list_any-append (λ f. input_columns f == 0) fs (f ∷ []) ∙ ap (λ b. b || ((input_columns f == 0) || false)) valid.columns ∙ ap (λ b. b || false) here

      still_once : has_twice (fs ++ f ∷ []) ≡ false
      still_once = has_twice-push fs f ∙ ap (λ b. b || repeats fs f) valid.once ∙ repeats_at fs f n at ∙ level_free n fs valid.columns zero

pub none_so_far : AreValid [] None
none_so_far = record { columns = refl; once = refl; lengths = refl }

-- ---- up to the next type

abbrev pub matched : List SpecCard → List InputFieldSpec
matched cards = matched_fields (followers input_role cards)

pub matched_none : (fs : List InputFieldSpec) (found : Option (List ℕ)) → AreValid fs found → found ≡ valid_matches (fs ++ matched [])
matched_none fs found valid = valid.lengths ∙ ap valid_matches (sym (append-nil fs))

pub no_cards : (cards : List SpecCard) → length cards ≡ 0 → cards ≡ []
no_cards [] none = refl
no_cards (c ∷ cards) none = absurd (omega arith)

module _ (fs : List InputFieldSpec) (c : SpecCard) (rest : List SpecCard) where
  of_role : (r : Role RecordType InputSpec) → input_role c.spec ≡ r → matched (c ∷ rest) ≡ matched_fields (followers_with r (followers input_role rest))
  of_role r is = ap (λ (r : Role RecordType InputSpec). matched_fields (followers_with r (followers input_role rest))) is

  pub matched_field : (f : InputFieldSpec) (n : ℕ) → input_role c.spec ≡ Follower (input.Field f) → f.match_level ≡ Some n → fs ++ matched (c ∷ rest) ≡ fs ++ f ∷ matched rest
  matched_field f n is at = ap (λ xs. fs ++ xs) (of_role (Follower (input.Field f)) is ∙ match_field-one f n (followers input_role rest) at)

-- ---- all of it, card by card

or_or : {X : Type 0} (a b c : Option X) → option_or a (option_or b c) ≡ option_or (option_or a b) c
or_or None b c = refl
or_or (Some x) b c = refl

or_none : {X : Type 0} (a : Option X) → option_or a None ≡ a
or_none None = refl
or_none (Some x) = refl

first_matches-push : (gs : List (Group RecordType InputSpec)) (g : Group RecordType InputSpec) → first_valid_matches (gs ++ g ∷ []) ≡ option_or (first_valid_matches gs) (valid_matches (matched_fields g.followers))
first_matches-push [] g = or_none (valid_matches (matched_fields g.followers))
first_matches-push (x ∷ xs) g = ap (option_or (valid_matches (matched_fields x.followers))) (first_matches-push xs g) ∙ or_or (valid_matches (matched_fields x.followers)) (first_valid_matches xs) (valid_matches (matched_fields g.followers))

module _ (before : List SpecCard) (c : SpecCard) (after : List SpecCard) (m : Matches) (was : AreMatches (before ++ c ∷ after) before m) where
  pub first_is : (t : RecordType) → input_role c.spec ≡ Heading t t.file → m.first ≡ first_valid_matches (groups input_role before)
  first_is t is = was.first ∙ ap first_valid_matches (types_before before c after t is)

  pub all_with_type : (t : RecordType) (first : Option (List ℕ)) → input_role c.spec ≡ Heading t t.file → first ≡ option_or m.first (valid_matches (matched_fields (followers input_role after)))
      → AreMatches (before ++ c ∷ after) (before ++ c ∷ []) (record { first = first; open_type = Some (record { levels = false ∷ false ∷ false ∷ false ∷ false ∷ false ∷ false ∷ false ∷ false ∷ []; length = 0 }) })
  all_with_type t first is made = record {
    first = made ∙ ap (λ o. option_or o (valid_matches (matched_fields (followers input_role after)))) (first_is t is) ∙ sym (ap first_valid_matches (types_with before c after t is) ∙ first_matches-push (groups input_role before) (type_group before c after t));
    open_type = ap (λ (x : OpenMatches). Some x) no_matches ∙ sym (open_heading before c after matches_of t is);
  }

  first_other : (r : Role RecordType InputSpec) → input_role c.spec ≡ r → one_if_heading r ≡ 0 → m.first ≡ first_of_types (before ++ c ∷ after) (before ++ c ∷ [])
  first_other r is none = was.first ∙ sym (ap first_valid_matches (types_other before c after (ap (λ (r : Role RecordType InputSpec). one_if_heading r) is ∙ none)))

  pub all_with_field : (f : InputFieldSpec) (new : Option OpenMatches) → input_role c.spec ≡ Follower (input.Field f)
      → ((specs : Option (List InputSpec)) → m.open_type ≡ option_map matches_of specs → new ≡ option_map (λ fs. matches_of (fs ++ input.Field f ∷ [])) specs)
      → AreMatches (before ++ c ∷ after) (before ++ c ∷ []) (record { first = m.first; open_type = new })
  all_with_field f new is made = record {
    first = first_other (Follower (input.Field f)) is refl;
    open_type = made (input_specs_in (open_group input_role before)) was.open_type ∙ sym (open_follower before c after matches_of (input.Field f) is);
  }

  pub all_with_codes : (codes : Three (Option RecordCode)) → input_role c.spec ≡ Follower (input.And codes) → AreMatches (before ++ c ∷ after) (before ++ c ∷ []) m
  all_with_codes codes is = record {
    first = first_other (Follower (input.And codes)) is refl;
    open_type = was.open_type ∙ by (input_specs_in (open_group input_role before)) ∙ sym (open_follower before c after matches_of (input.And codes) is);
  }
    where
      by : (o : Option (List InputSpec)) → option_map matches_of o ≡ option_map (λ fs. matches_of (fs ++ input.And codes ∷ [])) o
      by None = refl
      by (Some fs) = ap (λ (x : OpenMatches). Some x) (ap matches_in (sym (match_fields-append fs (input.And codes ∷ []) ∙ append-nil (matched_fields fs))))

  pub all_with_apart : input_role c.spec ≡ Apart → AreMatches (before ++ c ∷ after) (before ++ c ∷ []) m
  all_with_apart is = record {
    first = first_other Apart is refl;
    open_type = was.open_type ∙ sym (open_apart before c after matches_of is);
  }

-- the match fields of the open type
pub matches_open : (o : Option (Group RecordType InputSpec)) (m : Option OpenMatches) → m ≡ option_map matches_of (input_specs_in o)
    → unwrap_or m (record { levels = false ∷ false ∷ false ∷ false ∷ false ∷ false ∷ false ∷ false ∷ false ∷ []; length = 0 }) ≡ matches_of (option_map_or (λ g. g.followers) o [])
matches_open None m is = ap (λ o. unwrap_or o (record { levels = false ∷ false ∷ false ∷ false ∷ false ∷ false ∷ false ∷ false ∷ false ∷ []; length = 0 })) is ∙ no_matches
matches_open (Some g) m is = ap (λ o. unwrap_or o (record { levels = false ∷ false ∷ false ∷ false ∷ false ∷ false ∷ false ∷ false ∷ false ∷ []; length = 0 })) is
