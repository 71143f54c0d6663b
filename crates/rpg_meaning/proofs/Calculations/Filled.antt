-- Where each card of a group of several has conditions, each alternative before the last has some.
use Rattle.std.proofs.Common.{◌≡◌, ◌<◌, Bool, true, false, not, cond, ◌&&◌, ◌||◌, List, [], ◌∷◌, ◌++◌, length, Option, None, Some, refl, sym, ap, ◌∙◌, subst, arith, length-append}
use Rattle.std.proofs.lemmas.List.Elements.{All-cons, All-head, All-nil, All-tail}
use Rattle.std.specs.Option.{option_map_or}
use Rattle.std.specs.Prelude.{All, is_some}
use Rattle.rpg_cards.specs.Calculations.{CalculationGroup, alone, alternatives, calculations, calculations_before, completed, conditions_on, depends, continues, group_end, is_or, joined_group, open_calculation_group, tests_on}
use Rattle.rpg_cards.specs.Statements.{Calculation}
use Rattle.rpg_cards.specs.Keys.{Key, Name}
use Rattle.rpg_cards.specs.Sections.{Subroutine, begun_by, is_detail, is_same_name, is_subroutine, is_total, of_control, sections_of, subroutines_of, unless_begun, up_to_begin, with_begun}
use Rattle.rpg_cards.specs.Cards.{calculation_on}
use Rattle.rpg_cards.specs.Groups.{joins}
use Rattle.rpg_cards.specs.declared.spec_card.SpecCard.{SpecCard}
use Rattle.rpg_program.specs.declared.condition.Conditions.{Conditions}
use Rattle.rpg_faults_flow.proofs.Facts.{or_first}
use Rattle.rpg_faults_flow.proofs.Walk.{EachSplit, Walk, each_calculation}
use Rattle.rpg_faults_flow.specs.Columns.{bad_calculation, bad_calculation_columns, bad_conditions, may_depend}
use Rattle.rpg_faults_flow.specs.Kept.{KeepsRule}
use Rattle.rpg_meaning.specs.Calculations.Parts.{InDetail, InSubroutine, InTotal, Part, body_named, calculations_in}
use Rattle.rpg_meaning.specs.Calculations.Translation.{AreFilled, IsFilled}
use Rattle.rpg_sheet_specs.specs.declared.calculation.CalculationSpec.{CalculationSpec}
use Rattle.rpg_sheet_specs.specs.declared.calculation.ControlLevel.{ControlLevel}

-- ---- alternatives

-- each has conditions
abbrev AllFilled : List (List Conditions) → Type 0
AllFilled [] = Unit {0}
AllFilled (a ∷ rest) = (0 < length a) × AllFilled rest

with_front : (a : List Conditions) (rest : List (List Conditions)) → 0 < length a → AreFilled rest → AreFilled (a ∷ rest)
with_front a [] h f = tt
with_front a (b ∷ rest) h f = (h, f)

filled_from : (so_far : List Conditions) (ks : List CalculationSpec) → AllFilled (alternatives so_far ks) → AreFilled (alternatives so_far ks)
filled_from so_far [] h = tt
filled_from so_far (k ∷ ks) h = by (is_or k.control_level) h (λ f g. filled_from f ks g)
  where
    by : (b : Bool) → AllFilled (cond b (so_far ∷ alternatives (tests_on k) ks) (alternatives (so_far ++ tests_on k) ks)) → ((f : List Conditions) → AllFilled (alternatives f ks) → AreFilled (alternatives f ks))
        → AreFilled (cond b (so_far ∷ alternatives (tests_on k) ks) (alternatives (so_far ++ tests_on k) ks))
    by true h r = with_front so_far (alternatives (tests_on k) ks) h.0 (r (tests_on k) h.1)
    by false h r = r (so_far ++ tests_on k) h

filled_push : (so_far : List Conditions) (ks : List CalculationSpec) (k : CalculationSpec) → 0 < length (tests_on k) → AllFilled (alternatives so_far ks) → AllFilled (alternatives so_far (ks ++ k ∷ []))
filled_push so_far [] k t h = by (is_or k.control_level)
  where
    by : (b : Bool) → AllFilled (cond b (so_far ∷ tests_on k ∷ []) ((so_far ++ tests_on k) ∷ []))
    by true = (h.0, (t, tt))
    by false = let e = length-append so_far (tests_on k) in (omega arith, tt)
filled_push so_far (j ∷ js) k t h = by (is_or j.control_level) h (λ f g. filled_push f js k t g)
  where
    by : (b : Bool) → AllFilled (cond b (so_far ∷ alternatives (tests_on j) js) (alternatives (so_far ++ tests_on j) js)) → ((f : List Conditions) → AllFilled (alternatives f js) → AllFilled (alternatives f (js ++ k ∷ [])))
        → AllFilled (cond b (so_far ∷ alternatives (tests_on j) (js ++ k ∷ [])) (alternatives (so_far ++ tests_on j) (js ++ k ∷ [])))
    by true h r = (h.0, r (tests_on j) h.1)
    by false h r = r (so_far ++ tests_on j) h

some_test : (k : CalculationSpec) → depends k ≡ true → 0 < length (tests_on k)
some_test k e = subst (λ b. 0 < length (cond b (conditions_on k ∷ []) [])) (sym e) (omega arith)

-- ---- groups

abbrev are_none : List CalculationSpec → Bool
are_none [] = true
are_none (k ∷ ks) = false

abbrev is_alone : CalculationGroup → Bool
is_alone g = are_none g.followers

-- where the group comes to have several cards
abbrev IsFilledSoFar : List (Calculation Key) → CalculationGroup → CalculationGroup → Type 0
IsFilledSoFar before g full = is_alone full ≡ false → AllFilled (alternatives (tests_on g.first) g.followers)

abbrev Fills : List (Calculation Key) → Calculation Key → List (Calculation Key) → Type 0
Fills front g gs = IsFilled g

or_true : (a : Bool) → (a || true) ≡ true
or_true true = refl
or_true false = refl

goes_or_alone : (k : CalculationSpec) (after : List SpecCard) → is_alone (completed (alone k) after) ≡ false → continues after ≡ true
goes_or_alone k [] e = absurd cc
goes_or_alone k (c ∷ cs) e = by (calculation_on c.spec) e
  where
    by : (o : Option CalculationSpec) → is_alone (option_map_or (λ j. cond (joins j.control_level) (completed (joined_group (alone k) j) cs) (alone k)) o (alone k)) ≡ false → option_map_or (λ j. joins j.control_level) o false ≡ true
    by None e = absurd cc
    by (Some j) e = by_joins (joins j.control_level) e
      where
        by_joins : (b : Bool) → is_alone (cond b (completed (joined_group (alone k) j) cs) (alone k)) ≡ false → b ≡ true
        by_joins true e = refl
        by_joins false e = absurd cc

by_followers : (ks : List CalculationSpec) (first : List Conditions) → (are_none ks ≡ false → AllFilled (alternatives first ks)) → AreFilled (alternatives first ks)
by_followers [] first h = tt
by_followers (k ∷ ks) first h = filled_from first (k ∷ ks) (h refl)

module _ (cards : List SpecCard) (kept : KeepsRule bad_calculation_columns cards) where
  must_depend : (before : List SpecCard) (c : SpecCard) (after : List SpecCard) (k : CalculationSpec) → cards ≡ before ++ c ∷ after → calculation_on c.spec ≡ Some k → (continues after || (joins k.control_level && is_some (open_calculation_group before))) ≡ true → depends k ≡ true
  must_depend before c after k s e m =
      let several = continues after || (joins k.control_level && is_some (open_calculation_group before)) in
      let valid : bad_calculation (open_calculation_group before) k after ≡ false = sym (ap (λ x. option_map_or (λ k. bad_calculation (open_calculation_group before) k after) x false) e) ∙ kept before c after s in
      let both = or_first (several && not (depends k)) (depends k && not (may_depend (group_end k after))) (or_first (bad_conditions (open_calculation_group before) k after) _ valid) in
      by (depends k) (ap (λ b. b && not (depends k)) (sym m) ∙ both)
    where
      by : (b : Bool) → (true && not b) ≡ false → b ≡ true
      by true e = refl
      by false e = absurd cc

  begin : (before : List SpecCard) (c : SpecCard) (after : List SpecCard) (k : CalculationSpec) → cards ≡ before ++ c ∷ after → calculation_on c.spec ≡ Some k → IsFilledSoFar (calculations_before before (c ∷ after)) (alone k) (completed (alone k) after)
  begin before c after k s e m = (some_test k (must_depend before c after k s e (ap (λ b. b || (joins k.control_level && is_some (open_calculation_group before))) (goes_or_alone k after m))), tt)

  walk_of : Walk cards IsFilledSoFar Fills
  walk_of = record {
    first = λ before c after k s e j. begin before c after k s e;
    stray = λ before c after k s e j p. begin before c after k s e;
    more = λ before c after k g s e j p q m.
        filled_push (tests_on g.first) g.followers k
        (some_test k (must_depend before c after k s e (ap (λ b. continues after || (b && is_some (open_calculation_group before))) j ∙ ap (λ o. continues after || is_some o) p ∙ or_true (continues after)))) (q m);
    last = λ before c after g s p q. by_followers g.followers (tests_on g.first) q;
  }

  all_of : (front gs : List (Calculation Key)) → EachSplit Fills front gs → All IsFilled gs
  all_of front [] h = All-nil IsFilled
  all_of front (g ∷ gs) h = All-cons IsFilled g gs h.0 (all_of (front ++ g ∷ []) gs h.1)

  all_filled : All IsFilled (calculations cards)
  all_filled = all_of [] (calculations cards) (each_calculation cards IsFilledSoFar Fills walk_of)

-- ---- what holds of all calculations holds in each part

module _ (P : Calculation Key → Type 0) where
  abbrev AllIn : List (Calculation Key) → Type 0
  AllIn gs = All P gs

  abbrev IsAll : Subroutine Key → Type 0
  IsAll s = All P s.body

  control_all : (test : ControlLevel → Bool) (gs : List (Calculation Key)) → AllIn gs → AllIn (of_control test gs)
  control_all test [] h = h
  control_all test (g ∷ gs) h = by (test g.control) (control_all test gs (All-tail P g gs h))
    where
      by : (b : Bool) → AllIn (of_control test gs) → AllIn (cond b (g ∷ of_control test gs) (of_control test gs))
      by true r = All-cons P g (of_control test gs) (All-head P g gs h) r
      by false r = r

  up_to_all : (gs : List (Calculation Key)) → AllIn gs → AllIn (up_to_begin gs)
  up_to_all [] h = h
  up_to_all (g ∷ gs) h = by (begun_by g.statement) (up_to_all gs (All-tail P g gs h))
    where
      by : (o : Option (Option Name)) → AllIn (up_to_begin gs) → AllIn (unless_begun o (g ∷ up_to_begin gs))
      by None r = All-cons P g (up_to_begin gs) (All-head P g gs h) r
      by (Some n) r = All-nil P

  bodies_all : (gs : List (Calculation Key)) → AllIn gs → All IsAll (subroutines_of gs)
  bodies_all [] h = All-nil IsAll
  bodies_all (g ∷ gs) h = by (begun_by g.statement) (up_to_all gs (All-tail P g gs h)) (bodies_all gs (All-tail P g gs h))
    where
      by : (o : Option (Option Name)) → AllIn (up_to_begin gs) → All IsAll (subroutines_of gs) → All IsAll (with_begun o (up_to_begin gs) (subroutines_of gs))
      by None b r = r
      by (Some n) b r = All-cons IsAll (record { name = n; body = up_to_begin gs }) (subroutines_of gs) b r

  named_all : (name : Option Name) (ss : List (Subroutine Key)) → All IsAll ss → AllIn (body_named name ss)
  named_all name [] h = All-nil P
  named_all name (s ∷ ss) h = by (is_same_name name s.name) (named_all name ss (All-tail IsAll s ss h))
    where
      by : (b : Bool) → AllIn (body_named name ss) → AllIn (cond b s.body (body_named name ss))
      by true r = All-head IsAll s ss h
      by false r = r

  pub parts_all : (gs : List (Calculation Key)) → AllIn gs → (part : Part) → AllIn (calculations_in (sections_of gs) part)
  parts_all gs h InDetail = control_all is_detail gs h
  parts_all gs h InTotal = control_all is_total gs h
  parts_all gs h (InSubroutine name) = named_all name (subroutines_of (of_control is_subroutine gs)) (bodies_all (of_control is_subroutine gs) (control_all is_subroutine gs h))

pub filled_in : (cards : List SpecCard) → KeepsRule bad_calculation_columns cards → (part : Part) → All IsFilled (calculations_in (sections_of (calculations cards)) part)
filled_in cards kept = parts_all IsFilled (calculations cards) (all_filled cards kept)
