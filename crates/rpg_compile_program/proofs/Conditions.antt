-- Conditions and resulting indicators of C cards that break no rule of cards are those that a program may have.
use Rattle.std.proofs.Common.{◌≡◌, ◌≢◌, ◌⊎◌, ℕ, ◌≤◌, Bool, true, false, cond, not, ◌||◌, ◌&&◌, List, [], ◌∷◌, ◌++◌, map, Option, None, Some, refl, inl, inr, arith}
use Rattle.std.proofs.lemmas.Bool.{and_from, cases_Bool, eqb-false, le-leb, leb-false, leb-true, or_left, or_parts, or_right}
use Rattle.std.specs.List.{filter_map}
use Rattle.std.specs.Option.{ForSome, option_map_or}
use Rattle.std.specs.Prelude.{is_some, nat_le, ◌==◌}
use Rattle.rpg_cards.specs.Calculations.{alternatives, awaited_level, condition_of, conditions_on, depends, in_places, is_or, tests_on}
use Rattle.rpg_cards.specs.Statements.{shows_of}
use Rattle.rpg_cards.specs.Files.{ending_file, file_for, page_of}
use Rattle.rpg_cards.specs.Levels.{has_match_field}
use Rattle.rpg_cards.specs.Plain.{Each}
use Rattle.rpg_cards.specs.declared.files.FileUse.TheVariants.{Secondary}
use Rattle.rpg_cards.specs.declared.spec_card.SpecCard.{SpecCard}
use Rattle.rpg_compile_program.proofs.Each.{each_append}
use Rattle.rpg_program.specs.Control.{has_conditions}
use Rattle.rpg_program.specs.declared.condition.Conditions.{Conditions}
use Rattle.rpg_faults_operands.specs.Indicators.{any_of, bad_in_calculation, cannot_be_set, is_barred_mr}
use Rattle.rpg_program.specs.Kept.{IsIndicator}
use Rattle.rpg_program.specs.declared.rows.Version.{Version}
use Rattle.rpg_program.specs.declared.rows.Version.TheVariants as versions
use Rattle.rpg_text.specs.Texts.{is_between}
use Rattle.rpg_verify_rules.specs.Indicators.{all_testable, are_settable, if_any, is_settable, highest_testable}
use Rattle.rpg_sheet_specs.specs.declared.calculation.CalculationSpec.{CalculationSpec}
use Rattle.rpg_sheet_specs.specs.declared.calculation.ControlLevel.{ControlLevel}
use Rattle.rpg_sheet_specs.specs.declared.calculation.ControlLevel.TheVariants as control
use Rattle.rpg_sheet_specs.specs.declared.indicator.ConditionSpec as sheet
use Rattle.rpg_sheet_specs.specs.declared.indicator.Three.{Three}
use Rattle.rpg_compile_program.specs.Program.{needs_page, version_for, version_with}
use Rattle.rpg_compile_program.specs.Ranges.{InThree, IsCondition, IsControl}

-- ---- resulting indicators

inside : (first last n : ℕ) → first ≤ n → n ≤ last → is_between first last n ≡ true
inside first last n low high = and_from _ _ (le-leb first n low) (le-leb n last high)

settable_by : (n : ℕ) → 1 ≤ n → n ≤ 129 → (n ≡ 100 → ⊥) → (n ≡ 111 → ⊥) → (n ≡ 129 → ⊥) → (nat_le n 99 ≡ true) ⊎ (nat_le n 99 ≡ false)
    → (nat_le n 110 ≡ true) ⊎ (nat_le n 110 ≡ false) → is_settable n ≡ true
settable_by n low high no_l0 no_1p no_mr (inl a) b = or_left _ _ (inside 1 99 n low (leb-true n 99 a))
settable_by n low high no_l0 no_1p no_mr (inr a) (inl b) =
    let above = leb-false n 99 a in
    or_right (is_between 1 99 n) _ (or_left _ _ (inside 101 110 n (omega arith) (leb-true n 110 b)))
settable_by n low high no_l0 no_1p no_mr (inr a) (inr b) =
    let above = leb-false n 110 b in
    or_right (is_between 1 99 n) _ (or_right (is_between 101 110 n) _ (inside 112 128 n (omega arith) (omega arith)))

settable_if_any : (o : Option ℕ) → option_map_or cannot_be_set o false ≡ false → ForSome o IsIndicator → if_any is_settable o ≡ true
settable_if_any None right range = refl
settable_if_any (Some n) right range =
    let two = or_parts _ _ right in
    let one = or_parts _ _ two.0 in
    settable_by n (range n refl).lowest (range n refl).highest (eqb-false n 100 one.0) (eqb-false n 111 one.1) (eqb-false n 129 two.1) (cases_Bool (nat_le n 99)) (cases_Bool (nat_le n 110))

pub all_settable : (t : Three (Option ℕ)) → any_of cannot_be_set t ≡ false → InThree IsIndicator t → are_settable (shows_of t) ≡ true
all_settable t right range =
    let two = or_parts _ _ right in
    let one = or_parts _ _ two.0 in
    and_from _ _ (settable_if_any t.first one.0 range.first) (and_from _ _ (settable_if_any t.second one.1 range.second) (settable_if_any t.third two.1 range.third))

-- ---- conditions

-- what every version may ask
pub low_is_testable : (v : Version) (n : ℕ) → n ≤ 128 → nat_le n (highest_testable v) ≡ true
low_is_testable versions.One n low = le-leb n 128 low
low_is_testable versions.Two n low = le-leb n 129 (omega arith)
low_is_testable versions.Three n low = le-leb n 129 (omega arith)

-- what F8 doesn't bar may be tested in the program's version
pub testable_number : (cards : List SpecCard) (n : ℕ) → is_barred_mr cards n ≡ false → n ≤ 129 → nat_le n (highest_testable (version_for cards)) ≡ true
testable_number cards n right within = by (needs_page (page_of cards) (ending_file cards)) (is_some (file_for Secondary cards)) (has_match_field cards) right
  where
    not_mr : (b : Bool) → (b && true) ≡ false → b ≡ false
    not_mr true h = h
    not_mr false h = refl

    by : (p a b : Bool) → ((n == 129) && not b) ≡ false → nat_le n (highest_testable (version_with p a b)) ≡ true
    by true a b h = le-leb n 129 within
    by false true b h = le-leb n 129 within
    by false false true h = le-leb n 129 within
    by false false false h = let other : n ≢ 129 = eqb-false n 129 (not_mr (n == 129) h) in le-leb n 128 (omega arith)

module _ (v : Version) where
  abbrev is_testable_if_any : Option sheet.ConditionSpec → Bool
  is_testable_if_any o = option_map_or (λ (c : sheet.ConditionSpec). nat_le c.indicator (highest_testable v)) o true

  places_testable : (a b c : Option sheet.ConditionSpec) → is_testable_if_any a ≡ true → is_testable_if_any b ≡ true → is_testable_if_any c ≡ true → all_testable v (in_places (map condition_of (filter_map (λ x. x) (a ∷ b ∷ c ∷ [])))) ≡ true
  places_testable None None None p q r = refl
  places_testable None None (Some z) p q r = and_from _ _ r refl
  places_testable None (Some y) None p q r = and_from _ _ q refl
  places_testable None (Some y) (Some z) p q r = and_from _ _ q (and_from _ _ r refl)
  places_testable (Some x) None None p q r = and_from _ _ p refl
  places_testable (Some x) None (Some z) p q r = and_from _ _ p (and_from _ _ r refl)
  places_testable (Some x) (Some y) None p q r = and_from _ _ p (and_from _ _ q refl)
  places_testable (Some x) (Some y) (Some z) p q r = and_from _ _ p (and_from _ _ q r)

  -- a card's conditions may be tested in that version
  abbrev pub IsTestableIfAny : CalculationSpec → Type 0
  IsTestableIfAny k = all_testable v (conditions_on k) ≡ true

  -- a test has conditions, and they may be tested
  pub record IsTested (cs : Conditions) : Type 0 where
    pub some : has_conditions cs ≡ true
    pub testable : all_testable v cs ≡ true

testable_if_any : (cards : List SpecCard) (o : Option sheet.ConditionSpec) → option_map_or (bad_in_calculation cards) o false ≡ false → ForSome o IsCondition → is_testable_if_any (version_for cards) o ≡ true
testable_if_any cards None right range = refl
testable_if_any cards (Some c) right range = testable_number cards c.indicator (or_parts (c.indicator == 111) (is_barred_mr cards c.indicator) right).1 (range c refl).highest

pub is_testable : (cards : List SpecCard) (k : CalculationSpec) → any_of (bad_in_calculation cards) k.conditions ≡ false → InThree IsCondition k.conditions → IsTestableIfAny (version_for cards) k
is_testable cards k right range =
    let t = k.conditions in
    let two = or_parts _ _ right in
    let one = or_parts _ _ two.0 in
    places_testable (version_for cards) t.first t.second t.third
    (testable_if_any cards t.first one.0 range.first) (testable_if_any cards t.second one.1 range.second) (testable_if_any cards t.third two.1 range.third)

-- ---- the tests of a group

module _ (v : Version) where
  tests_right : (k : CalculationSpec) → IsTestableIfAny v k → Each (IsTested v) (tests_on k)
  tests_right k testable = by (depends k) refl
    where
      by : (b : Bool) → depends k ≡ b → Each (IsTested v) (cond b (conditions_on k ∷ []) [])
      by true some = (record { some = some; testable = testable }, tt)
      by false some = tt

  alternatives_tested : (so_far : List Conditions) (ks : List CalculationSpec) → Each (IsTested v) so_far → Each (IsTestableIfAny v) ks → Each (Each (IsTested v)) (alternatives so_far ks)
  alternatives_tested so_far [] h testable = (h, tt)
  alternatives_tested so_far (k ∷ ks) h testable =
      by (is_or k.control_level) (alternatives_tested (tests_on k) ks (tests_right k testable.0) testable.1)
      (alternatives_tested (so_far ++ tests_on k) ks (each_append (IsTested v) so_far (tests_on k) h (tests_right k testable.0)) testable.1)
    where
      by : (b : Bool) → Each (Each (IsTested v)) (alternatives (tests_on k) ks) → Each (Each (IsTested v)) (alternatives (so_far ++ tests_on k) ks)
          → Each (Each (IsTested v)) (cond b (so_far ∷ alternatives (tests_on k) ks) (alternatives (so_far ++ tests_on k) ks))
      by true begun more = (h, begun)
      by false begun more = more

  pub group_tested : (first : CalculationSpec) (followers : List CalculationSpec) → IsTestableIfAny v first → Each (IsTestableIfAny v) followers → Each (Each (IsTested v)) (alternatives (tests_on first) followers)
  group_tested first followers testable more = alternatives_tested (tests_on first) followers (tests_right first testable) more

-- the level indicator that it waits for
pub level_within : (c : ControlLevel) → IsControl c → ForSome (awaited_level c) (λ n. n ≤ 110)
level_within control.Detail range = λ n is. absurd cc
level_within (control.Total n) range = by (n == 100)
  where
    by : (b : Bool) → ForSome (cond b None (Some n)) (λ n. n ≤ 110)
    by true = λ m is. absurd cc
    by false = λ m is. let same : n ≡ m = cc in let high = range.1 in omega arith
level_within control.Subroutine range = λ n is. absurd cc
level_within control.And range = λ n is. absurd cc
level_within control.Or range = λ n is. absurd cc
