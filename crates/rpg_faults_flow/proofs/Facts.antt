-- What the rules F9, F10, F12, F13, F14 say of each calculation, with those before and after it.
use Rattle.std.proofs.Common.{◌≡◌, ◌+◌, Bool, true, false, not, cond, ◌&&◌, ◌||◌, List, [], ◌∷◌, ◌++◌, length, Option, None, Some, refl, sym, ap, ◌∙◌, arith, length-append}
use Rattle.std.specs.Prelude.{is_none, is_some, unwrap_or}
use Rattle.std.specs.List.{last_or}
use Rattle.std.specs.Option.{option_and_then, option_map, option_map_or}
use Rattle.rpg_cards.specs.Calculations.{CalculationGroup, alone, alternatives, awaited_level, calculation_of, calculations, calculations_before, completed, conditions_on, depends, continues, group_end, group_ending, group_with, is_or, joined_group, last_card, open_calculation_group, tests_on}
use Rattle.rpg_cards.specs.Calls.{call_at, calls}
use Rattle.rpg_cards.specs.Statements.{Calculation, Executes, Statement, GoesTo, statement_from, statement_of, tests}
use Rattle.rpg_cards.specs.Keys.{Key, plain_name}
use Rattle.rpg_cards.specs.Labels.{is_endsr, is_inside_subroutine, labels}
use Rattle.rpg_cards.specs.Sections.{is_subroutine}
use Rattle.rpg_cards.specs.Cards.{calculation_on}
use Rattle.rpg_cards.specs.Groups.{joins}
use Rattle.rpg_cards.specs.declared.spec_card.SpecCard.{SpecCard}
use Rattle.rpg_program.specs.declared.condition.Conditions.{Conditions}
use Rattle.rpg_sheet_specs.specs.Three.{filled_count}
use Rattle.rpg_faults_flow.specs.Columns.{bad_by_end, bad_calculation, bad_calculation_columns, bad_conditions, bad_last, bad_operation, may_depend}
use Rattle.rpg_faults_flow.specs.Flow.{calls_itself, leads_back, leaves_its_section, lacks_target, lacks_label, leaves_section}
use Rattle.rpg_faults_flow.specs.Kept.{KeepsRule}
use Rattle.rpg_faults_flow.specs.Order.{breaks_calculation, breaks_group, breaks_order, is_bracket, is_early, is_outside_subroutine, unpaired}
use Rattle.rpg_faults_flow.proofs.Walk.{EachSplit, Walk, each_calculation}
use Rattle.rpg_sheet_specs.specs.declared.calculation.CalculationSpec.{CalculationSpec}
use Rattle.rpg_sheet_specs.specs.declared.calculation.ControlLevel.{ControlLevel}
use Rattle.rpg_sheet_specs.specs.declared.calculation.ControlLevel.TheVariants as control
use Rattle.rpg_sheet_specs.specs.declared.calculation.Operation.{Operation}
use Rattle.rpg_sheet_specs.specs.declared.calculation.Operation.TheVariants as op
use Rattle.rpg_sheet_specs.specs.declared.entry.Entry.{Entry}
use Rattle.rpg_sheet_specs.specs.declared.literal.Factor.{Factor}
use Rattle.rpg_sheet_specs.specs.declared.literal.Factor.TheVariants as factor
use Rattle.rpg_sheet_specs.specs.Operations.{card_columns}
use Rattle.std.specs.Prelude.{nat_lt}

-- a GOTO and an EXSR have a name
abbrev pub lacks_name : Statement Key → Bool
lacks_name (GoesTo l) = is_none l
lacks_name (Executes n) = is_none n
lacks_name _ = false

pub record Facts (cards : List SpecCard) (before : List (Calculation Key)) (g : Calculation Key) (following : List (Calculation Key)) : Type 0 where
  -- F12
  pub begins_group : joins g.control ≡ false
  pub inside : (is_subroutine g.control && (not (is_bracket g.statement) && not (is_inside_subroutine before))) ≡ false
  pub paired : unpaired before g following ≡ false
  -- F9
  pub free : is_endsr g.statement ≡ true → tests g.alternatives ≡ 0
  pub named : lacks_name g.statement ≡ false
  -- by definition
  pub waits : is_subroutine g.control ≡ true → g.level ≡ None
  -- F10
  pub found : lacks_label (labels (calculations cards)) g ≡ false
  -- F13
  pub near : leaves_section (labels (calculations cards)) before g ≡ false
  -- F14
  pub forward : leads_back (calls (calculations cards)) (call_at (labels (calculations cards)) before g) ≡ false

-- ---- Booleans

pub blank_result : (P : Bool → Type 0) (r : Option Entry) → P (is_some (option_map factor.Entry r)) → P (is_some r)
blank_result P None h = h
blank_result P (Some x) h = h

pub or_first : (a b : Bool) → (a || b) ≡ false → a ≡ false
or_first true b e = absurd cc
or_first false b e = refl

pub or_second : (a b : Bool) → (a || b) ≡ false → b ≡ false
or_second true b e = absurd cc
or_second false b e = e

-- ---- the group that ends on a card

pub record Ending (before : List SpecCard) (c : SpecCard) (after : List SpecCard) (g : CalculationGroup) : Type 0 where
  pub card : CalculationSpec
  pub is : calculation_on c.spec ≡ Some card
  pub ends : continues after ≡ false
  pub group : group_with (open_calculation_group before) card ≡ g

some_same : {X : Type 0} (x y : X) → Some x ≡ Some y → x ≡ y
some_same x y e = ap (λ o. option_map_or (λ z. z) o x) e

pub ending : (before : List SpecCard) (c : SpecCard) (after : List SpecCard) (g : CalculationGroup) → group_ending before c after ≡ Some g → Ending before c after g
ending before c after g e = by (continues after) refl (calculation_on c.spec) refl e
  where
    by : (b : Bool) → continues after ≡ b → (x : Option CalculationSpec) → calculation_on c.spec ≡ x → cond b None (option_map (group_with (open_calculation_group before)) x) ≡ Some g → Ending before c after g
    by true p x q e = absurd cc
    by false p None q e = absurd cc
    by false p (Some k) q e = record { card = k; is = q; ends = p; group = some_same (group_with (open_calculation_group before) k) g e }

pub last_push : {X : Type 0} (xs : List X) (x : X) (d : Option X) → last_or d (xs ++ x ∷ []) ≡ Some x
last_push [] x d = refl
last_push (y ∷ ys) x d = last_push ys x (Some y)

pub last_with : (o : Option CalculationGroup) (k : CalculationSpec) → last_card (group_with o k) ≡ k
last_with None k = refl
last_with (Some g) k = by (joins k.control_level)
  where
    by : (b : Bool) → last_card (cond b (joined_group g k) (alone k)) ≡ k
    by true = ap (λ o. unwrap_or o g.first) (last_push g.followers k None)
    by false = refl

-- ---- conditions of a group

tests_push : (so_far : List Conditions) (ks : List CalculationSpec) (k : CalculationSpec) → tests (alternatives so_far (ks ++ k ∷ [])) ≡ tests (alternatives so_far ks) + length (tests_on k)
tests_push so_far [] k = by (is_or k.control_level)
  where
    by : (b : Bool) → tests (cond b (so_far ∷ tests_on k ∷ []) ((so_far ++ tests_on k) ∷ [])) ≡ length so_far + 0 + length (tests_on k)
    by true = omega arith
    by false = let e = length-append so_far (tests_on k) in omega arith
tests_push so_far (j ∷ js) k = by (is_or j.control_level) (λ f. tests_push f js k)
  where
    by : (b : Bool) → ((f : List Conditions) → tests (alternatives f (js ++ k ∷ [])) ≡ tests (alternatives f js) + length (tests_on k))
        → tests (cond b (so_far ∷ alternatives (tests_on j) (js ++ k ∷ [])) (alternatives (so_far ++ tests_on j) (js ++ k ∷ []))) ≡ tests (cond b (so_far ∷ alternatives (tests_on j) js) (alternatives (so_far ++ tests_on j) js)) + length (tests_on k)
    by true r = let e = r (tests_on j) in omega arith
    by false r = r (so_far ++ tests_on j)

pub no_tests : (k : CalculationSpec) → depends k ≡ false → length (tests_on k) ≡ 0
no_tests k e = ap (λ b. length (cond b (conditions_on k ∷ []) [])) e

-- ---- the open group

pub record IsOpen (before : List (Calculation Key)) (g full : CalculationGroup) : Type 0 where
  pub begins_group : joins g.first.control_level ≡ false
  pub inside : is_outside_subroutine before full ≡ false
  pub free : may_depend (last_card full) ≡ false → tests (alternatives (tests_on g.first) g.followers) ≡ 0

end_alone : (k : CalculationSpec) (o : Option Operation) → is_endsr (statement_from k o) ≡ true → option_map_or (λ o. (card_columns o).may_depend) o true ≡ false
end_alone k None e = absurd cc
end_alone k (Some op.EndSubroutine) e = refl
end_alone k (Some op.Add) e = absurd cc
end_alone k (Some _) e = absurd cc

name_there : (f : Option Factor) → option_map_or (λ x. is_none (plain_name x)) f true ≡ false → is_none (option_and_then plain_name f) ≡ false
name_there None e = absurd cc
name_there (Some x) e = e

names_there : (k : CalculationSpec) (o : Option Operation) → option_map_or (bad_operation k) o true ≡ false → lacks_name (statement_from k o) ≡ false
names_there k None e = absurd cc
names_there k (Some op.GoTo) e = name_there k.factor_2 (or_first (option_map_or (λ x. is_none (plain_name x)) k.factor_2 true) (is_some k.result_field || nat_lt 0 (filled_count k.resulting_indicators)) (or_second (is_some k.factor_1) (option_map_or (λ x. is_none (plain_name x)) k.factor_2 true || (is_some k.result_field || nat_lt 0 (filled_count k.resulting_indicators))) (blank_result (λ b. (is_some k.factor_1 || (option_map_or (λ x. is_none (plain_name x)) k.factor_2 true || (b || nat_lt 0 (filled_count k.resulting_indicators)))) ≡ false) k.result_field e)))
names_there k (Some op.Call) e = name_there k.factor_2 (or_first (option_map_or (λ x. is_none (plain_name x)) k.factor_2 true) (is_some k.result_field || nat_lt 0 (filled_count k.resulting_indicators)) (or_second (is_some k.factor_1) (option_map_or (λ x. is_none (plain_name x)) k.factor_2 true || (is_some k.result_field || nat_lt 0 (filled_count k.resulting_indicators))) (blank_result (λ b. (is_some k.factor_1 || (option_map_or (λ x. is_none (plain_name x)) k.factor_2 true || (b || nat_lt 0 (filled_count k.resulting_indicators)))) ≡ false) k.result_field e)))
names_there k (Some op.Add) e = refl
names_there k (Some _) e = refl

completed_last : (g h : CalculationGroup) (cs : List SpecCard) → last_card g ≡ last_card h → last_card (completed g cs) ≡ last_card (completed h cs)
completed_last g h [] e = e
completed_last g h (c ∷ cs) e = by (calculation_on c.spec) (λ k. completed_last (joined_group g k) (joined_group h k) cs (ap (λ o. unwrap_or o g.first) (last_push g.followers k None) ∙ sym (ap (λ o. unwrap_or o h.first) (last_push h.followers k None))))
  where
    by_joins : (k : CalculationSpec) (b : Bool) → last_card (completed (joined_group g k) cs) ≡ last_card (completed (joined_group h k) cs) → last_card (cond b (completed (joined_group g k) cs) g) ≡ last_card (cond b (completed (joined_group h k) cs) h)
    by_joins k true r = r
    by_joins k false r = e

    by : (o : Option CalculationSpec) → ((k : CalculationSpec) → last_card (completed (joined_group g k) cs) ≡ last_card (completed (joined_group h k) cs))
        → last_card (option_map_or (λ k. cond (joins k.control_level) (completed (joined_group g k) cs) g) o g) ≡ last_card (option_map_or (λ k. cond (joins k.control_level) (completed (joined_group h k) cs) h) o h)
    by None r = e
    by (Some k) r = by_joins k (joins k.control_level) (r k)

waits_not : (c : ControlLevel) → is_subroutine c ≡ true → awaited_level c ≡ None
waits_not control.Detail e = absurd cc
waits_not (control.Total n) e = absurd cc
waits_not control.Subroutine e = refl
waits_not control.And e = absurd cc
waits_not control.Or e = absurd cc

-- ---- the rules

module _ (cards : List SpecCard) (columns_kept : KeepsRule bad_calculation_columns cards) (order : KeepsRule breaks_order cards) (labels_found : KeepsRule (lacks_target cards) cards) (stays : KeepsRule (leaves_its_section cards) cards) (leads : KeepsRule (calls_itself cards) cards) where
  pub card_kept : (before : List SpecCard) (c : SpecCard) (after : List SpecCard) (k : CalculationSpec) → cards ≡ before ++ c ∷ after → calculation_on c.spec ≡ Some k → bad_calculation (open_calculation_group before) k after ≡ false
  card_kept before c after k s e = sym (ap (λ x. option_map_or (λ k. bad_calculation (open_calculation_group before) k after) x false) e) ∙ columns_kept before c after s

  free_of : (before : List SpecCard) (c : SpecCard) (after : List SpecCard) (k : CalculationSpec) → cards ≡ before ++ c ∷ after → calculation_on c.spec ≡ Some k → may_depend (group_end k after) ≡ false → length (tests_on k) ≡ 0
  free_of before c after k s e m =
      let rest = or_first (bad_conditions (open_calculation_group before) k after) ((is_some k.length && is_none k.result_field) || bad_by_end (continues after) k) (card_kept before c after k s e) in
      let both = or_second ((continues after || (joins k.control_level && is_some (open_calculation_group before))) && not (depends k)) (depends k && not (may_depend (group_end k after))) rest in
      no_tests k (by (depends k) (ap (λ b. depends k && not b) (sym m) ∙ both))
    where
      by : (b : Bool) → (b && true) ≡ false → b ≡ false
      by true e = absurd cc
      by false e = refl

  group_kept : (before : List SpecCard) (c : SpecCard) (after : List SpecCard) (k : CalculationSpec) (b : Bool) → cards ≡ before ++ c ∷ after → calculation_on c.spec ≡ Some k → joins k.control_level ≡ b → breaks_group b before c k after ≡ false
  group_kept before c after k b s e j =
      let all = or_first (option_map_or (λ k. breaks_group (joins k.control_level) before c k after) (calculation_on c.spec) false) (option_map_or (breaks_calculation before c after) (group_ending before c after) false) (order before c after s) in
      ap (λ x. breaks_group x before c k after) (sym j) ∙ sym (ap (λ x. option_map_or (λ k. breaks_group (joins k.control_level) before c k after) x false) e) ∙ all

  walk_of : Walk cards IsOpen (Facts cards)
  walk_of = record {
    first = λ before c after k s e j. record {
      begins_group = j;
      inside = or_second (is_early before k) (is_outside_subroutine (calculations_before before (c ∷ after)) (completed (alone k) after)) (group_kept before c after k false s e j);
      free = λ m. let none = free_of before c after k s e m in omega arith;
    };
    stray = λ before c after k s e j p. let none = sym (ap is_none p) ∙ group_kept before c after k true s e j in absurd cc;
    more = λ before c after k g s e j p q. record {
      begins_group = q.begins_group;
      inside = q.inside;
      free = λ m.
          let same = completed_last (joined_group g k) (alone k) after (ap (λ o. unwrap_or o g.first) (last_push g.followers k None)) in
          let none = free_of before c after k s e (sym (ap may_depend same) ∙ m) in
          let sum = tests_push (tests_on g.first) g.followers k in
          let so_far = q.free m in
          omega arith;
    };
    last = λ before c after g s p q.
        let e = ending before c after g p in
        let is_last : last_card g ≡ e.card = sym (ap last_card e.group) ∙ last_with (open_calculation_group before) e.card in
        let ends = or_second ((is_some e.card.length && is_none e.card.result_field)) (bad_by_end (continues after) e.card) (or_second (bad_conditions (open_calculation_group before) e.card after) ((is_some e.card.length && is_none e.card.result_field) || bad_by_end (continues after) e.card) (card_kept before c after e.card s e.is)) in
        let valid : bad_last e.card ≡ false = ap (λ b. bad_by_end b e.card) (sym e.ends) ∙ ends in
        record {
          begins_group = q.begins_group;
          inside = q.inside;
          paired = sym (ap (λ x. option_map_or (breaks_calculation before c after) x false) p) ∙ or_second (option_map_or (λ k. breaks_group (joins k.control_level) before c k after) (calculation_on c.spec) false) (option_map_or (breaks_calculation before c after) (group_ending before c after) false) (order before c after s);
          waits = waits_not g.first.control_level;
          free = λ x. q.free (end_alone (last_card g) (last_card g).operation x);
          named = ap (λ k. lacks_name (statement_of k)) is_last ∙ names_there e.card e.card.operation valid;
          found = sym (ap (λ x. option_map_or (lacks_label (labels (calculations cards))) (option_map calculation_of x) false) p) ∙ labels_found before c after s;
          near = sym (ap (λ x. option_map_or (leaves_section (labels (calculations cards)) (calculations_before before (c ∷ after))) (option_map calculation_of x) false) p) ∙ stays before c after s;
          forward = sym (ap (λ x. leads_back (calls (calculations cards)) (option_and_then (call_at (labels (calculations cards)) (calculations_before before (c ∷ after))) (option_map calculation_of x))) p) ∙ leads before c after s;
        };
  }

  pub each_fact : EachSplit (Facts cards) [] (calculations cards)
  each_fact = each_calculation cards IsOpen (Facts cards) walk_of
