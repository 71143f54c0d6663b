-- Control levels: what F16 says of the joined lengths of record types, and what the verifier's rule requires of them.
use Rattle.std.proofs.Common.{◌≡◌, ℕ, ◌+◌, ◌-◌, ◌≤◌, Bool, true, false, cond, ◌||◌, ◌&&◌, List, [], ◌∷◌, ◌++◌, map, filter, Option, None, Some, refl, sym, ap, ◌∙◌, arith}
use Rattle.std.proofs.lemmas.Bool.{and_from, eq-eqb, eqb-true, le-leb, ne_eqb, not-false}
use Rattle.std.proofs.lemmas.List.Sums.{sum_by-cons}
use Rattle.std.specs.List.{cons_option, filter_map, list_any}
use Rattle.std.specs.Option.{option_map, option_map_or, option_or}
use Rattle.std.specs.Prelude.{nat_le, sum_by, ◌==◌}
use Rattle.rpg_cards.specs.Keys.{Key}
use Rattle.rpg_cards.specs.Plain.{Each}
use Rattle.rpg_cards.specs.Groups.{Group}
use Rattle.rpg_cards.specs.Levels.{control_level, is_at}
use Rattle.rpg_cards.specs.declared.spec_card.SpecCard.{SpecCard}
use Rattle.rpg_program.specs.Input.{TypeRow}
use Rattle.rpg_program.specs.declared.input.ControlField.{ControlField}
use Rattle.rpg_faults_places.specs.Places.{first_length, valid_length, has_bad, input_columns, joined_length, lengths_differ, level_length, levels}
use Rattle.rpg_program.specs.Naming.{renamed_type}
use Rattle.rpg_verify_rules.specs.TypeRules.{all_measured, is_measured, measure, measures}
use Rattle.rpg_verify_rules.specs.TypeRules as row
use Rattle.rpg_sheet_specs.specs.declared.input.InputFieldSpec.{InputFieldSpec}
use Rattle.rpg_sheet_specs.specs.declared.input.InputSpec.{InputSpec}
use Rattle.rpg_sheet_specs.specs.declared.input.RecordType.{RecordType}
use Rattle.rpg_compile_program.proofs.Lists.{or_first, or_second}
use Rattle.rpg_compile_program.specs.Types.{card_type, control_field, field_at_level, input_fields_in}

-- ---- columns that are valid

pub record HasColumns (f : InputFieldSpec) : Type 0 where
  pub first : 1 ≤ f.from
  pub order : f.from ≤ f.to

pub some_columns : (f : InputFieldSpec) → HasColumns f → (input_columns f ≡ f.to + 1 - f.from) × (1 ≤ input_columns f)
some_columns f h =
    let low = h.first in
    let high = h.order in
    let same : input_columns f ≡ f.to + 1 - f.from = ap (λ b. cond b 0 (f.to + 1 - f.from)) (ne_eqb f.from 0 (λ e. omega arith)) in
    (same, omega arith)

-- ---- one type: the sums of both are one

module _ (level_of : InputFieldSpec → Option ℕ) where
  abbrev pub At : ℕ → List InputFieldSpec → List InputFieldSpec
  At level fs = filter (is_at level_of level) fs

  abbrev pub Sum : ℕ → List InputFieldSpec → ℕ
  Sum level fs = sum_by input_columns (At level fs)

  one_more : (level : ℕ) (f : InputFieldSpec) (fs : List InputFieldSpec) → Sum level (f ∷ fs) ≡ cond (is_at level_of level f) (input_columns f) 0 + Sum level fs
  one_more level f fs = by (is_at level_of level f)
    where
      by : (b : Bool) → sum_by input_columns (cond b (f ∷ At level fs) (At level fs)) ≡ cond b (input_columns f) 0 + Sum level fs
      by true = sum_by-cons input_columns f (At level fs)
      by false = omega arith

  pub same_sum : (level : ℕ) (fs : List InputFieldSpec) → Each HasColumns fs → row.joined_width level (filter_map (field_at_level level_of) fs) ≡ Sum level fs
  same_sum level [] h = refl
  same_sum level (f ∷ fs) h =
      let more = one_more level f fs in
      by_level (level_of f) (same_sum level fs h.1) ∙ sym more
    where
      by_level : (o : Option ℕ) → row.joined_width level (filter_map (field_at_level level_of) fs) ≡ Sum level fs
          → row.joined_width level (cons_option (option_map (control_field f) o) (filter_map (field_at_level level_of) fs)) ≡ cond (option_map_or (λ l. l == level) o false) (input_columns f) 0 + Sum level fs
      by_level None r = let s = r in omega arith
      by_level (Some l) r = ap (λ n. cond (l == level) n 0 + row.joined_width level (filter_map (field_at_level level_of) fs)) (sym (some_columns f h.0).0) ∙ ap (λ n. cond (l == level) (input_columns f) 0 + n) r

-- ---- levels of types

abbrev pub InGroup : Group RecordType InputSpec → Type 0
InGroup g = Each HasColumns (input_fields_in g.followers)

abbrev pub Joined : ℕ → Group RecordType InputSpec → ℕ
Joined level g = joined_length level g.followers

pub positive : (fs : List InputFieldSpec) → Each HasColumns fs → has_bad fs ≡ false
positive [] h = refl
positive (f ∷ fs) h = ap (λ b. b || has_bad fs) (ne_eqb (input_columns f) 0 (λ e. let low = (some_columns f h.0).1 in omega arith)) ∙ positive fs h.1

pub each_filtered : (test : InputFieldSpec → Bool) (fs : List InputFieldSpec) → Each HasColumns fs → Each HasColumns (filter test fs)
each_filtered test [] h = tt
each_filtered test (f ∷ fs) h = by (test f) (each_filtered test fs h.1)
  where
    by : (b : Bool) → Each HasColumns (filter test fs) → Each HasColumns (cond b (f ∷ filter test fs) (filter test fs))
    by true r = (h.0, r)
    by false r = r

-- the length where there is one
abbrev some_if : ℕ → Option ℕ
some_if n = cond (n == 0) None (Some n)

length_is : (fs : List InputFieldSpec) → Each HasColumns fs → valid_length fs ≡ some_if (sum_by input_columns fs)
length_is [] h = refl
length_is (f ∷ fs) h =
    let sum = sum_by-cons input_columns f fs in
    let low = (some_columns f h.0).1 in
    ap (λ b. cond b None (Some (sum_by input_columns (f ∷ fs)))) (positive (f ∷ fs) h)
    ∙ sym (ap (λ b. cond b None (Some (sum_by input_columns (f ∷ fs)))) (ne_eqb (sum_by input_columns (f ∷ fs)) 0 (λ e. omega arith)))

level_is : (level : ℕ) (g : Group RecordType InputSpec) → InGroup g → level_length level g.followers ≡ some_if (Joined level g)
level_is level g h = length_is (At control_level level (input_fields_in g.followers)) (each_filtered (is_at control_level level) (input_fields_in g.followers) h)

-- the joined length of the first that has the level
abbrev pub first_joined : ℕ → List (Group RecordType InputSpec) → ℕ
first_joined level [] = 0
first_joined level (g ∷ gs) = cond (Joined level g == 0) (first_joined level gs) (Joined level g)

first_is : (level : ℕ) (gs : List (Group RecordType InputSpec)) → Each InGroup gs → first_length level gs ≡ some_if (first_joined level gs)
first_is level [] h = refl
first_is level (g ∷ gs) h = (λ i. option_or (level_is level g h.0 i) (first_is level gs h.1 i)) ∙ by (Joined level g == 0) refl
  where
    by : (b : Bool) → (Joined level g == 0) ≡ b → option_or (cond b None (Some (Joined level g))) (some_if (first_joined level gs)) ≡ some_if (cond b (first_joined level gs) (Joined level g))
    by true e = refl
    by false e = sym (ap (λ b. cond b None (Some (Joined level g))) e)

pub first_same : (cards : List SpecCard) (number : Key → ℕ) (level : ℕ) (gs : List (Group RecordType InputSpec)) → Each InGroup gs → measure level (map (renamed_type number) (map (card_type cards) gs)) ≡ first_joined level gs
first_same cards number level [] h = refl
first_same cards number level (g ∷ gs) h =
    (λ i. cond (same_sum control_level level (input_fields_in g.followers) h.0 i == 0) (first_same cards number level gs h.1 i) (same_sum control_level level (input_fields_in g.followers) h.0 i))

-- ---- a type among others

first_after : (level : ℕ) (front following : List (Group RecordType InputSpec)) → first_joined level (front ++ following) ≡ cond (first_joined level front == 0) (first_joined level following) (first_joined level front)
first_after level [] following = refl
first_after level (g ∷ gs) following = by (Joined level g == 0) refl (first_after level gs following)
  where
    by : (b : Bool) → (Joined level g == 0) ≡ b → first_joined level (gs ++ following) ≡ cond (first_joined level gs == 0) (first_joined level following) (first_joined level gs)
        → cond b (first_joined level (gs ++ following)) (Joined level g) ≡ cond (cond b (first_joined level gs) (Joined level g) == 0) (first_joined level following) (cond b (first_joined level gs) (Joined level g))
    by true e r = r
    by false e r = sym (ap (λ b. cond b (first_joined level following) (Joined level g)) e)

-- as long as in the first type with the level, and 256 at most
pub measured : (level : ℕ) (front : List (Group RecordType InputSpec)) (g : Group RecordType InputSpec) (following : List (Group RecordType InputSpec)) → Each InGroup front → InGroup g → Joined level g ≤ 256
    → lengths_differ (first_length level front) (level_length level g.followers) ≡ false → is_measured (first_joined level (front ++ g ∷ following)) (Joined level g) ≡ true
measured level front g following h valid few same = by (Joined level g == 0) refl
  where
    alike : lengths_differ (some_if (first_joined level front)) (some_if (Joined level g)) ≡ false
    alike = sym (λ i. lengths_differ (first_is level front h i) (level_is level g valid i)) ∙ same

    own : (b : Bool) → (first_joined level front == 0) ≡ b → (Joined level g == 0) ≡ false → (Joined level g == first_joined level (front ++ g ∷ following)) ≡ true
    own true f e = eq-eqb (Joined level g) _ (sym (first_after level front (g ∷ following) ∙ ap (λ b. cond b (first_joined level (g ∷ following)) (first_joined level front)) f ∙ ap (λ b. cond b (first_joined level following) (Joined level g)) e))
    own false f e =
        let equal : (first_joined level front == Joined level g) ≡ true = not-false _ (sym (λ i. lengths_differ (cond (f i) None (Some (first_joined level front))) (cond (e i) None (Some (Joined level g)))) ∙ alike) in
        eq-eqb (Joined level g) _ (sym (eqb-true (first_joined level front) (Joined level g) equal) ∙ sym (first_after level front (g ∷ following) ∙ ap (λ b. cond b (first_joined level (g ∷ following)) (first_joined level front)) f))

    by : (b : Bool) → (Joined level g == 0) ≡ b → (b || (nat_le (Joined level g) 256 && (Joined level g == first_joined level (front ++ g ∷ following)))) ≡ true
    by true e = refl
    by false e = and_from _ _ (le-leb (Joined level g) 256 few) (own (first_joined level front == 0) refl e)

-- ---- all nine levels

none_each : (test : ℕ → Bool) (ns : List ℕ) → list_any test ns ≡ false → Each (λ n. test n ≡ false) ns
none_each test [] e = tt
none_each test (n ∷ ns) e = (or_first (test n) (list_any test ns) e, none_each test ns (or_second (test n) (list_any test ns) e))

pub each_level : (test : ℕ → Bool) → list_any test levels ≡ false → Each (λ n. test n ≡ false) levels
each_level test e = none_each test levels e

pub all_nine : (ts : List (TypeRow ℕ)) (cs : List ControlField) → Each (λ level. is_measured (measure level ts) (row.joined_width level cs) ≡ true) levels → all_measured 1 (measures ts) cs ≡ true
unfolding levels
all_nine ts cs h = and_from _ _ h.0 (and_from _ _ h.1.0 (and_from _ _ h.1.1.0 (and_from _ _ h.1.1.1.0 (and_from _ _ h.1.1.1.1.0 (and_from _ _ h.1.1.1.1.1.0 (and_from _ _ h.1.1.1.1.1.1.0 (and_from _ _ h.1.1.1.1.1.1.1.0 h.1.1.1.1.1.1.1.1.0)))))))
