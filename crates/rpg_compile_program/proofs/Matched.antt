-- Match fields: what F16 says of those of record types, and what the verifier's rule requires of them.
use Rattle.std.proofs.Common.{◌≡◌, ℕ, ◌+◌, ◌-◌, ◌≤◌, Bool, true, false, not, cond, ◌||◌, ◌&&◌, List, [], ◌∷◌, ◌++◌, append-nil, length, map, filter, Option, None, Some, refl, sym, ap, ◌∙◌, subst, arith}
use Rattle.std.proofs.lemmas.Bool.{and_from, eq-eqb, eqb-false, le-leb, ltb-false, ne_eqb, not-false, not_from_false, or_from, or_parts}
use Rattle.std.proofs.lemmas.List.Folds.{list_any-append}
use Rattle.std.proofs.lemmas.List.Sums.{sum_by-append, sum_by-cons}
use Rattle.std.proofs.lemmas.Slice.Eq.{bytes_eq-Decides}
use Rattle.std.specs.Cmp.Lexicographic.{pointwise}
use Rattle.std.specs.List.{cons_option, filter_map, list_any}
use Rattle.std.specs.Option.{option_map, option_map_or, option_or}
use Rattle.std.specs.Prelude.{is_some, nat_eq, nat_le, nat_lt, sum_by, ◌==◌}
use Rattle.rpg_cards.specs.Groups.{Group}
use Rattle.rpg_cards.specs.Keys.{Key}
use Rattle.rpg_cards.specs.Levels.{is_at, is_match_field, match_level}
use Rattle.rpg_cards.specs.Plain.{Each}
use Rattle.rpg_cards.specs.declared.spec_card.SpecCard.{SpecCard}
use Rattle.rpg_program.specs.declared.input.ControlField.{ControlField}
use Rattle.rpg_program.specs.Naming.{renamed_type}
use Rattle.rpg_faults_places.specs.Places.{first_valid_matches, valid_matches, has_bad, has_twice, input_columns, levels, matched_fields, match_lengths, matches_differ, passes_matches, repeats}
use Rattle.rpg_sheet_specs.specs.declared.input.InputFieldSpec.{InputFieldSpec}
use Rattle.rpg_sheet_specs.specs.declared.input.InputSpec.{InputSpec}
use Rattle.rpg_sheet_specs.specs.declared.input.RecordType.{RecordType}
use Rattle.rpg_verify_rules.specs.TypeRules.{are_joined_as, are_once, is_of_level, joined_width, joined_widths}
use Rattle.rpg_verify_rules.specs.TypeRules as rule
use Rattle.rpg_compile_program.proofs.Joined.{At, HasColumns, InGroup, each_filtered, positive, same_sum, some_columns}
use Rattle.rpg_compile_program.proofs.LevelSums.{all_columns}
use Rattle.rpg_compile_program.specs.Types.{card_type, control_field, input_fields_in, match_field_of}

-- ---- the fields with a match level, as cards have them and as a program has them

abbrev pub Matching : List InputFieldSpec → List InputFieldSpec
Matching fs = filter is_match_field fs

abbrev pub Rows : List InputFieldSpec → List ControlField
Rows fs = filter_map match_field_of fs

same_length : (fs : List InputFieldSpec) → length (Rows fs) ≡ length (Matching fs)
same_length [] = refl
same_length (f ∷ fs) = by f.match_level (same_length fs)
  where
    by : (o : Option ℕ) → length (Rows fs) ≡ length (Matching fs) → length (cons_option (option_map (control_field f) o) (Rows fs)) ≡ length (cond (is_some o) (f ∷ Matching fs) (Matching fs))
    by None r = r
    by (Some l) r = let rest = r in omega arith

same_levels : (l : ℕ) (fs : List InputFieldSpec) → list_any (is_of_level l) (Rows fs) ≡ list_any (is_at match_level l) (Matching fs)
same_levels l [] = refl
same_levels l (f ∷ fs) = by f.match_level refl (same_levels l fs)
  where
    by : (o : Option ℕ) → f.match_level ≡ o → list_any (is_of_level l) (Rows fs) ≡ list_any (is_at match_level l) (Matching fs)
        → list_any (is_of_level l) (cons_option (option_map (control_field f) o) (Rows fs)) ≡ list_any (is_at match_level l) (cond (is_some o) (f ∷ Matching fs) (Matching fs))
    by None e r = r
    by (Some m) e r =
        ap (λ b. (m == l) || b) r ∙ sym (ap (λ (o : Option ℕ). option_map_or (λ k. k == l) o false || list_any (is_at match_level l) (Matching fs)) e)

-- ---- each level stands once

pub once_same : (fs : List InputFieldSpec) → has_twice (Matching fs) ≡ false → are_once (Rows fs) ≡ true
once_same [] e = refl
once_same (f ∷ fs) e = by f.match_level refl e (once_same fs)
  where
    by : (o : Option ℕ) → f.match_level ≡ o → has_twice (cond (is_some o) (f ∷ Matching fs) (Matching fs)) ≡ false → (has_twice (Matching fs) ≡ false → are_once (Rows fs) ≡ true)
        → are_once (cons_option (option_map (control_field f) o) (Rows fs)) ≡ true
    by None is none rest = rest none
    by (Some l) is none rest =
        let both = or_parts (repeats (Matching fs) f) (has_twice (Matching fs)) none in
        let other : list_any (is_at match_level l) (Matching fs) ≡ false = sym (ap (λ (o : Option ℕ). option_map_or (λ level. list_any (is_at match_level level) (Matching fs)) o false) is) ∙ both.0 in
        and_from _ _ (not_from_false _ (same_levels l fs ∙ other)) (rest both.1)

-- ---- one more field

halves : (p q : ℕ → Bool) (o : Option ℕ) → option_map_or (λ l. p l || q l) o false ≡ false → (option_map_or p o false ≡ false) × (option_map_or q o false ≡ false)
halves p q None e = (refl, refl)
halves p q (Some l) e = or_parts (p l) (q l) e

neither : (p q : ℕ → Bool) (o : Option ℕ) → option_map_or p o false ≡ false → option_map_or q o false ≡ false → option_map_or (λ l. p l || (q l || false)) o false ≡ false
neither p q None a b = refl
neither p q (Some l) a b = or_from _ _ a (or_from _ _ b refl)

-- two levels are unlike, whichever is tested first
unlike : (a b : Option ℕ) → option_map_or (λ k. option_map_or (λ l. l == k) a false) b false ≡ false → option_map_or (λ l. option_map_or (λ k. k == l) b false) a false ≡ false
unlike None None e = refl
unlike None (Some k) e = refl
unlike (Some l) None e = refl
unlike (Some l) (Some k) e = ne_eqb k l (λ same. eqb-false l k e (sym same))

repeats_more : (ms : List InputFieldSpec) (m f : InputFieldSpec) → repeats ms m ≡ false → repeats (m ∷ ms) f ≡ false → repeats (ms ++ f ∷ []) m ≡ false
repeats_more ms m f own further =
    (λ i. option_map_or (λ l. list_any-append (is_at match_level l) ms (f ∷ []) i) m.match_level false)
    ∙ neither (λ l. list_any (is_at match_level l) ms) (λ l. is_at match_level l f) m.match_level own
    (unlike m.match_level f.match_level (halves (λ k. is_at match_level k m) (λ k. list_any (is_at match_level k) ms) f.match_level further).0)

has_twice_more : (ms : List InputFieldSpec) (f : InputFieldSpec) → has_twice ms ≡ false → repeats ms f ≡ false → has_twice (ms ++ f ∷ []) ≡ false
has_twice_more [] f once new = or_from _ _ new refl
has_twice_more (m ∷ ms) f once new =
    let both = or_parts (repeats ms m) (has_twice ms) once in
    let rest = (halves (λ k. is_at match_level k m) (λ k. list_any (is_at match_level k) ms) f.match_level new).1 in
    or_from _ _ (repeats_more ms m f both.0 new) (has_twice_more ms f both.1 rest)

-- each level once, and at most 256 columns
pub record AreFew (ms : List InputFieldSpec) : Type 0 where
  pub once : has_twice ms ≡ false
  pub columns : sum_by input_columns ms ≤ 256

pub none_few : AreFew []
none_few = record { once = refl; columns = omega arith }

pub stay_few : (ms : List InputFieldSpec) (f : InputFieldSpec) → AreFew ms → (repeats ms f || passes_matches ms f) ≡ false → AreFew (ms ++ Matching (f ∷ []))
stay_few ms f few right = by (is_some f.match_level) refl
  where
    both : (repeats ms f ≡ false) × (passes_matches ms f ≡ false)
    both = or_parts (repeats ms f) (passes_matches ms f) right

    within : (b c : Bool) → b ≡ true → c ≡ true → (b && (c && nat_lt 256 (sum_by input_columns ms + input_columns f))) ≡ false → sum_by input_columns ms + input_columns f ≤ 256
    within true true b c e = ltb-false 256 (sum_by input_columns ms + input_columns f) e
    within true false b c e = absurd cc
    within false c b d e = absurd cc

    by : (b : Bool) → is_some f.match_level ≡ b → AreFew (ms ++ cond b (f ∷ []) [])
    by true is = record {
      once = has_twice_more ms f few.once both.0;
      columns =
          let sum = sum_by-append input_columns ms (f ∷ []) in
          let one = sum_by-cons input_columns f [] in
          let most = within (is_some f.match_level) (nat_le (sum_by input_columns ms) 256) is (le-leb (sum_by input_columns ms) 256 few.columns) both.1 in
          omega arith;
    }
    by false is = subst AreFew (sym (append-nil ms)) few

-- ---- joined lengths

at_same : (level : ℕ) (fs : List InputFieldSpec) → filter (is_at match_level level) (Matching fs) ≡ At match_level level fs
at_same level [] = refl
at_same level (f ∷ fs) = by f.match_level refl (at_same level fs)
  where
    by : (o : Option ℕ) → f.match_level ≡ o → filter (is_at match_level level) (Matching fs) ≡ At match_level level fs
        → filter (is_at match_level level) (cond (is_some o) (f ∷ Matching fs) (Matching fs)) ≡ cond (is_at match_level level f) (f ∷ At match_level level fs) (At match_level level fs)
    by None e r = r ∙ sym (ap (λ (o : Option ℕ). cond (option_map_or (λ l. l == level) o false) (f ∷ At match_level level fs) (At match_level level fs)) e)
    by (Some l) e r = ap (λ xs. cond (is_at match_level level f) (f ∷ xs) xs) r

same_map : (f g : ℕ → ℕ) → ((n : ℕ) → f n ≡ g n) → (ns : List ℕ) → map f ns ≡ map g ns
same_map f g e [] = refl
same_map f g e (n ∷ ns) = λ i. e n i ∷ same_map f g e ns i

nine_widths : (cs : List ControlField) → map (λ level. joined_width level cs) levels ≡ joined_widths cs
unfolding levels
nine_widths cs = refl

pub columns_same : (fs : List InputFieldSpec) → Each HasColumns fs → all_columns (Rows fs) ≡ sum_by input_columns (Matching fs)
columns_same [] h = refl
columns_same (f ∷ fs) h = by f.match_level (columns_same fs h.1)
  where
    by : (o : Option ℕ) → all_columns (Rows fs) ≡ sum_by input_columns (Matching fs)
        → all_columns (cons_option (option_map (control_field f) o) (Rows fs)) ≡ sum_by input_columns (cond (is_some o) (f ∷ Matching fs) (Matching fs))
    by None r = r
    by (Some l) r = let here = (some_columns f h.0).0 in let sum = sum_by-cons input_columns f (Matching fs) in let rest = r in omega arith

pub lengths_same : (fs : List InputFieldSpec) → Each HasColumns fs → match_lengths (Matching fs) ≡ joined_widths (Rows fs)
lengths_same fs h =
    same_map (λ level. sum_by input_columns (filter (is_at match_level level) (Matching fs))) (λ level. joined_width level (Rows fs))
    (λ level. ap (sum_by input_columns) (at_same level fs) ∙ sym (same_sum match_level level fs h)) levels
    ∙ nine_widths (Rows fs)

-- ---- types

abbrev pub IsOnce : Group RecordType InputSpec → Type 0
IsOnce g = has_twice (matched_fields g.followers) ≡ false

abbrev pub Matches : Group RecordType InputSpec → List ControlField
Matches g = Rows (input_fields_in g.followers)

-- the joined lengths, unless there is none
abbrev unless_none : List ControlField → Option (List ℕ)
unless_none cs = cond (length cs == 0) None (Some (joined_widths cs))

valid_are : (fs : List InputFieldSpec) → Each HasColumns fs → has_twice (Matching fs) ≡ false → valid_matches (Matching fs) ≡ unless_none (Rows fs)
valid_are fs h once = by (Matching fs) refl
  where
    by : (ms : List InputFieldSpec) → Matching fs ≡ ms → valid_matches ms ≡ unless_none (Rows fs)
    by [] e = sym (ap (λ b. cond b None (Some (joined_widths (Rows fs)))) (eq-eqb (length (Rows fs)) 0 (same_length fs ∙ ap length e)))
    by (m ∷ ms) e =
        let valid : has_bad (m ∷ ms) ≡ false = positive (m ∷ ms) (subst (Each HasColumns) e (each_filtered is_match_field fs h)) in
        let single : has_twice (m ∷ ms) ≡ false = subst (λ xs. has_twice xs ≡ false) e once in
        let long = ap length e in
        let same = same_length fs in
        ap (λ b. cond b None (Some (match_lengths (m ∷ ms)))) (or_from _ _ valid single)
        ∙ ap Some (sym (ap match_lengths e) ∙ lengths_same fs h)
        ∙ sym (ap (λ b. cond b None (Some (joined_widths (Rows fs)))) (ne_eqb (length (Rows fs)) 0 (λ z. omega arith)))

-- those of the first that has some
abbrev pub firsts : List (Group RecordType InputSpec) → List ControlField
firsts [] = []
firsts (g ∷ gs) = cond (length (Matches g) == 0) (firsts gs) (Matches g)

first_are : (gs : List (Group RecordType InputSpec)) → Each InGroup gs → Each IsOnce gs → first_valid_matches gs ≡ unless_none (firsts gs)
first_are [] h once = refl
first_are (g ∷ gs) h once = (λ i. option_or (valid_are (input_fields_in g.followers) h.0 once.0 i) (first_are gs h.1 once.1 i)) ∙ by (length (Matches g) == 0) refl
  where
    by : (b : Bool) → (length (Matches g) == 0) ≡ b → option_or (cond b None (Some (joined_widths (Matches g)))) (unless_none (firsts gs)) ≡ unless_none (cond b (firsts gs) (Matches g))
    by true e = refl
    by false e = sym (ap (λ b. cond b None (Some (joined_widths (Matches g)))) e)

pub first_rows : (cards : List SpecCard) (number : Key → ℕ) (gs : List (Group RecordType InputSpec)) → rule.first_matches (map (renamed_type number) (map (card_type cards) gs)) ≡ firsts gs
first_rows cards number [] = refl
first_rows cards number (g ∷ gs) = ap (λ cs. cond (length (Matches g) == 0) cs (Matches g)) (first_rows cards number gs)

-- ---- a type among others

firsts_after : (front following : List (Group RecordType InputSpec)) → firsts (front ++ following) ≡ cond (length (firsts front) == 0) (firsts following) (firsts front)
firsts_after [] following = refl
firsts_after (g ∷ gs) following = by (length (Matches g) == 0) refl (firsts_after gs following)
  where
    by : (b : Bool) → (length (Matches g) == 0) ≡ b → firsts (gs ++ following) ≡ cond (length (firsts gs) == 0) (firsts following) (firsts gs)
        → cond b (firsts (gs ++ following)) (Matches g) ≡ cond (length (cond b (firsts gs) (Matches g)) == 0) (firsts following) (cond b (firsts gs) (Matches g))
    by true e r = r
    by false e r = sym (ap (λ b. cond b (firsts following) (Matches g)) e)

-- the same lengths as in the first type that has match fields
pub matched : (front : List (Group RecordType InputSpec)) (g : Group RecordType InputSpec) (following : List (Group RecordType InputSpec)) → Each InGroup front → Each IsOnce front → InGroup g → IsOnce g
    → matches_differ (first_valid_matches front) (valid_matches (matched_fields g.followers)) ≡ false → are_joined_as (joined_widths (firsts (front ++ g ∷ following))) (Matches g) ≡ true
matched front g following h once valid single same = by (length (Matches g) == 0) refl
  where
    alike : matches_differ (unless_none (firsts front)) (unless_none (Matches g)) ≡ false
    alike = sym (λ i. matches_differ (first_are front h once i) (valid_are (input_fields_in g.followers) valid single i)) ∙ same

    equal : (xs ys : List ℕ) → xs ≡ ys → pointwise ◌==◌ ys xs ≡ true
    equal xs ys e = (bytes_eq-Decides ys xs).1 (sym e)

    own : (b : Bool) → (length (firsts front) == 0) ≡ b → (length (Matches g) == 0) ≡ false → pointwise ◌==◌ (joined_widths (Matches g)) (joined_widths (firsts (front ++ g ∷ following))) ≡ true
    own true f e =
        equal (joined_widths (firsts (front ++ g ∷ following))) (joined_widths (Matches g)) (ap joined_widths (firsts_after front (g ∷ following) ∙ ap (λ b. cond b (firsts (g ∷ following)) (firsts front)) f ∙ ap (λ b. cond b (firsts following) (Matches g)) e))
    own false f e =
        let differ : not (pointwise nat_eq (joined_widths (firsts front)) (joined_widths (Matches g))) ≡ false =
        sym (λ i. matches_differ (cond (f i) None (Some (joined_widths (firsts front)))) (cond (e i) None (Some (joined_widths (Matches g))))) ∙ alike in
        equal (joined_widths (firsts (front ++ g ∷ following))) (joined_widths (Matches g))
        (ap joined_widths (firsts_after front (g ∷ following) ∙ ap (λ b. cond b (firsts (g ∷ following)) (firsts front)) f)
        ∙ (bytes_eq-Decides (joined_widths (firsts front)) (joined_widths (Matches g))).0 (not-false _ differ))

    by : (b : Bool) → (length (Matches g) == 0) ≡ b → (b || pointwise ◌==◌ (joined_widths (Matches g)) (joined_widths (firsts (front ++ g ∷ following)))) ≡ true
    by true e = refl
    by false e = own (length (firsts front) == 0) refl e
