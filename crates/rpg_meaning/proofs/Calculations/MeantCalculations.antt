-- The compiler takes from C cards the calculations that the cards mean.
use Rattle.std.proofs.Common.{◌≡◌, ℕ, Bool, true, false, cond, List, [], ◌∷◌, ◌++◌, Option, None, Some, refl, sym, ap, ◌∙◌, subst}
use Rattle.std.specs.List.{last_or}
use Rattle.std.specs.Option.{option_and_then, option_map, option_map_or, option_to_list}
use Rattle.std.specs.Prelude.{is_some, unwrap_or}
use Rattle.rpg_cards.specs.Calculations.{CalculationGroup, alone, alternatives, awaited_level, calculation_of, calculations, calculations_from, completed, continues, group_with, is_or, joined_group, open_with, tests_on}
use Rattle.rpg_cards.specs.Cards.{calculation_on}
use Rattle.rpg_cards.specs.Statements.{Acts, Begins, Calculation, Ends, Executes, GoesTo, Marks, statement_from, shows_of}
use Rattle.rpg_program.specs.declared.operation.Action.TheVariants.{Assign, Compare, Compute, CrossFoot, Divide, LookUp, Move, TakeRemainder}
use Rattle.rpg_program.specs.declared.operation.Operator.TheVariants as operator
use Rattle.rpg_program.specs.declared.operation.Side.TheVariants.{Left, Right}
use Rattle.rpg_cards.specs.Groups.{joins}
use Rattle.rpg_cards.specs.Keys.{Key, entry_operand, factor_operand, nowhere, plain_name}
use Rattle.rpg_cards.specs.declared.spec_card.SpecCard.{SpecCard}
use Rattle.rpg_program.specs.declared.condition.Conditions.{Conditions}
use Rattle.rpg_sheet_specs.specs.declared.calculation.CalculationSpec.{CalculationSpec}
use Rattle.rpg_sheet_specs.specs.declared.calculation.ControlLevel.{ControlLevel}
use Rattle.rpg_sheet_specs.specs.declared.calculation.ControlLevel.TheVariants as control
use Rattle.rpg_sheet_specs.specs.declared.calculation.Operation.{Operation}
use Rattle.rpg_sheet_specs.specs.declared.calculation.Operation.TheVariants as op
use Rattle.rpg_sheet_specs.specs.declared.entry.Entry.{Entry}
use Rattle.rpg_sheet_specs.specs.declared.entry.EntryIndex.{EntryIndex}
use Rattle.rpg_sheet_specs.specs.declared.entry.EntryIndex.TheVariants as entry
use Rattle.rpg_sheet_specs.specs.declared.indicator.ConditionSpec as written
use Rattle.rpg_sheet_specs.specs.declared.literal.Factor.{Factor}
use Rattle.rpg_sheet_specs.specs.declared.literal.Factor.TheVariants as factor
use Rattle.rpg_sheet_specs.specs.declared.literal.Literal.TheVariants as literal
use Rattle.rpg_meaning.specs.Sheets.Calculations.{tested_else, tested_further, filled_conditions_on, meant_calculation, meant_calculations, done_by, entry_named, meant_factor, first_or, is_continuation, is_or_calculation, joined_after, meant_level, meant_name, meant_result, meant_from}

append_none : {X : Type 0} (xs : List X) → xs ++ [] ≡ xs
append_none [] = refl
append_none (x ∷ xs) = λ i. x ∷ append_none xs i

append_twice : {X : Type 0} (xs ys zs : List X) → (xs ++ ys) ++ zs ≡ xs ++ (ys ++ zs)
append_twice [] ys zs = refl
append_twice (x ∷ xs) ys zs = λ i. x ∷ append_twice xs ys zs i

-- ---- operands

entry_same : (e : Entry) → entry_operand e ≡ entry_named e
entry_same e = by e.index
  where
    by : (o : Option EntryIndex) → entry_operand (record e { index = o }) ≡ entry_named (record e { index = o })
    by None = refl
    by (Some (entry.Literal n)) = refl
    by (Some (entry.Name x)) = refl

factor_same : (o : Option Factor) → unwrap_or (option_map factor_operand o) nowhere ≡ meant_factor o
factor_same None = refl
factor_same (Some (factor.Entry e)) = entry_same e
factor_same (Some (factor.Literal (literal.Number n))) = refl
factor_same (Some (factor.Literal (literal.Text t))) = refl

result_same : (o : Option Entry) → unwrap_or (option_map entry_operand o) nowhere ≡ meant_result o
result_same None = refl
result_same (Some e) = entry_same e

first_same : (o : Option Factor) (r : Option Entry) → unwrap_or (option_map factor_operand o) (unwrap_or (option_map entry_operand r) nowhere) ≡ first_or o r
first_same None r = result_same r
first_same (Some f) r = factor_same (Some f)

looked_same : (o : Option Entry) → option_map entry_operand o ≡ option_map entry_named o
looked_same None = refl
looked_same (Some e) = ap Some (entry_same e)

name_same : (o : Option Factor) → option_and_then plain_name o ≡ meant_name o
name_same None = refl
name_same (Some (factor.Literal l)) = refl
name_same (Some (factor.Entry e)) = by e.index
  where
    by : (o : Option EntryIndex) → option_map_or (λ (i : EntryIndex). let none : Option (List ℕ) = None in none) o (Some e.name) ≡ cond (is_some o) None (Some e.name)
    by None = refl
    by (Some i) = refl

statement_same : (k : CalculationSpec) (o : Option Operation) → statement_from k o ≡ done_by k o
statement_same k None = refl
statement_same k (Some op.Add) = λ i. Acts (Compute operator.Add k.half_adjust (first_same k.factor_1 k.result_field i) (factor_same k.factor_2 i) (result_same k.result_field i) (shows_of k.resulting_indicators))
statement_same k (Some op.Subtract) = λ i. Acts (Compute operator.Subtract k.half_adjust (first_same k.factor_1 k.result_field i) (factor_same k.factor_2 i) (result_same k.result_field i) (shows_of k.resulting_indicators))
statement_same k (Some op.Multiply) = λ i. Acts (Compute operator.Multiply k.half_adjust (first_same k.factor_1 k.result_field i) (factor_same k.factor_2 i) (result_same k.result_field i) (shows_of k.resulting_indicators))
statement_same k (Some op.Divide) = λ i. Acts (Divide k.half_adjust (first_same k.factor_1 k.result_field i) (factor_same k.factor_2 i) (result_same k.result_field i) (shows_of k.resulting_indicators))
statement_same k (Some op.ZeroAdd) = λ i. Acts (Assign false k.half_adjust (factor_same k.factor_2 i) (result_same k.result_field i) (shows_of k.resulting_indicators))
statement_same k (Some op.ZeroSubtract) = λ i. Acts (Assign true k.half_adjust (factor_same k.factor_2 i) (result_same k.result_field i) (shows_of k.resulting_indicators))
statement_same k (Some op.MoveRemainder) = λ i. Acts (TakeRemainder (result_same k.result_field i) (shows_of k.resulting_indicators))
statement_same k (Some op.CrossFoot) = λ i. Acts (CrossFoot k.half_adjust (factor_same k.factor_2 i) (result_same k.result_field i) (shows_of k.resulting_indicators))
statement_same k (Some op.Move) = λ i. Acts (Move Right (factor_same k.factor_2 i) (result_same k.result_field i))
statement_same k (Some op.MoveLeft) = λ i. Acts (Move Left (factor_same k.factor_2 i) (result_same k.result_field i))
statement_same k (Some op.Compare) = λ i. Acts (Compare (factor_same k.factor_1 i) (factor_same k.factor_2 i) (shows_of k.resulting_indicators))
statement_same k (Some op.LookUp) = λ i. Acts (LookUp (factor_same k.factor_1 i) (factor_same k.factor_2 i) (looked_same k.result_field i) (shows_of k.resulting_indicators))
statement_same k (Some op.SetOn) = refl
statement_same k (Some op.SetOff) = refl
statement_same k (Some op.GoTo) = ap GoesTo (name_same k.factor_2)
statement_same k (Some op.Call) = ap Executes (name_same k.factor_2)
statement_same k (Some op.Label) = ap Marks (name_same k.factor_1)
statement_same k (Some op.BeginSubroutine) = ap Begins (name_same k.factor_1)
statement_same k (Some op.EndSubroutine) = ap Ends (name_same k.factor_1)
statement_same k (Some op.Except) = refl

-- ---- conditions

level_same : (c : ControlLevel) → awaited_level c ≡ meant_level c
level_same control.Detail = refl
level_same (control.Total n) = refl
level_same control.Subroutine = refl
level_same control.And = refl
level_same control.Or = refl

tests_by : (cl : ControlLevel) (a b c : Option written.ConditionSpec) (k : CalculationSpec)
    → tests_on (record k { conditions = record { first = a; second = b; third = c } }) ≡ filled_conditions_on (record k { conditions = record { first = a; second = b; third = c } })
tests_by cl None None None k = refl
tests_by cl None None (Some z) k = refl
tests_by cl None (Some y) None k = refl
tests_by cl None (Some y) (Some z) k = refl
tests_by cl (Some x) None None k = refl
tests_by cl (Some x) None (Some z) k = refl
tests_by cl (Some x) (Some y) None k = refl
tests_by cl (Some x) (Some y) (Some z) k = refl

tests_same : (k : CalculationSpec) → tests_on k ≡ filled_conditions_on k
tests_same k = tests_by k.control_level k.conditions.first k.conditions.second k.conditions.third k

or_same : (k : CalculationSpec) → is_or k.control_level ≡ is_or_calculation k
or_same k = by k.control_level
  where
    by : (c : ControlLevel) → is_or c ≡ is_or_calculation (record k { control_level = c })
    by control.Detail = refl
    by (control.Total n) = refl
    by control.Subroutine = refl
    by control.And = refl
    by control.Or = refl

alternatives_same : (so_far : List Conditions) (ks : List CalculationSpec) → alternatives so_far ks ≡ (so_far ++ tested_further ks) ∷ tested_else ks
alternatives_same so_far [] = λ i. sym (append_none so_far) i ∷ []
alternatives_same so_far (k ∷ ks) =
    (λ i. cond (or_same k i) (so_far ∷ alternatives (tests_same k i) ks) (alternatives (so_far ++ tests_same k i) ks)) ∙ by (is_or_calculation k) (λ s. alternatives_same s ks)
  where
    by : (b : Bool) → ((s : List Conditions) → alternatives s ks ≡ (s ++ tested_further ks) ∷ tested_else ks)
        → cond b (so_far ∷ alternatives (filled_conditions_on k) ks) (alternatives (so_far ++ filled_conditions_on k) ks)
        ≡ (so_far ++ cond b [] (filled_conditions_on k ++ tested_further ks)) ∷ cond b ((filled_conditions_on k ++ tested_further ks) ∷ tested_else ks) (tested_else ks)
    by true rest = λ i. sym (append_none so_far) i ∷ rest (filled_conditions_on k) i
    by false rest = rest (so_far ++ filled_conditions_on k) ∙ (λ i. append_twice so_far (filled_conditions_on k) (tested_further ks) i ∷ tested_else ks)

calculation_same : (k : CalculationSpec) (ks : List CalculationSpec) → calculation_of (record { first = k; followers = ks }) ≡ meant_calculation k ks
calculation_same k ks = λ i. record {
  control = k.control_level;
  level = level_same k.control_level i;
  alternatives = (alternatives_same (tests_on k) ks ∙ (λ j. (tests_same k j ++ tested_further ks) ∷ tested_else ks)) i;
  statement = statement_same (unwrap_or (last_or None ks) k) (let last : CalculationSpec = unwrap_or (last_or None ks) k in last.operation) i;
}

-- ---- groups

joins_same : (c : ControlLevel) → joins c ≡ is_continuation c
joins_same control.Detail = refl
joins_same (control.Total n) = refl
joins_same control.Subroutine = refl
joins_same control.And = refl
joins_same control.Or = refl

completed_same : (k : CalculationSpec) (ks : List CalculationSpec) (cs : List SpecCard) → completed (record { first = k; followers = ks }) cs ≡ record { first = k; followers = ks ++ joined_after cs }
completed_same k ks [] = λ i. record { first = k; followers = sym (append_none ks) i }
completed_same k ks (c ∷ cs) = by (calculation_on c.spec) (λ ls. completed_same k ls cs)
  where
    by_join : (j : CalculationSpec) (b : Bool) → ((ls : List CalculationSpec) → completed (record { first = k; followers = ls }) cs ≡ record { first = k; followers = ls ++ joined_after cs })
        → cond b (completed (record { first = k; followers = ks ++ j ∷ [] }) cs) (record { first = k; followers = ks }) ≡ record { first = k; followers = ks ++ cond b (j ∷ joined_after cs) [] }
    by_join j true rest = rest (ks ++ j ∷ []) ∙ (λ i. record { first = k; followers = append_twice ks (j ∷ []) (joined_after cs) i })
    by_join j false rest = λ i. record { first = k; followers = sym (append_none ks) i }

    by : (o : Option CalculationSpec) → ((ls : List CalculationSpec) → completed (record { first = k; followers = ls }) cs ≡ record { first = k; followers = ls ++ joined_after cs })
        → option_map_or (λ j. cond (joins j.control_level) (completed (record { first = k; followers = ks ++ j ∷ [] }) cs) (record { first = k; followers = ks })) o (record { first = k; followers = ks })
        ≡ record { first = k; followers = ks ++ option_map_or (λ j. cond (is_continuation j.control_level) (j ∷ joined_after cs) []) o [] }
    by None rest = λ i. record { first = k; followers = sym (append_none ks) i }
    by (Some j) rest = (λ i. cond (joins_same j.control_level i) (completed (record { first = k; followers = ks ++ j ∷ [] }) cs) (record { first = k; followers = ks })) ∙ by_join j (is_continuation j.control_level) rest

-- after the last card read of an open group
tail_of : CalculationGroup → List SpecCard → List (Calculation Key)
tail_of g cs = option_to_list (option_map calculation_of (cond (continues cs) None (Some g))) ++ calculations_from (Some g) cs []

-- the calculations after an open group, and with no group open
module _ (cs : List SpecCard) where
  whole_same : (k : CalculationSpec) → calculation_of (completed (alone k) cs) ≡ meant_calculation k (joined_after cs)
  whole_same k = ap calculation_of (completed_same k [] cs) ∙ calculation_same k (joined_after cs)

  alone_same : ((g : CalculationGroup) → tail_of g cs ≡ calculation_of (completed g cs) ∷ meant_from true cs) → (k : CalculationSpec) → tail_of (alone k) cs ≡ meant_calculation k (joined_after cs) ∷ meant_from true cs
  alone_same rest k = rest (alone k) ∙ (λ i. whole_same k i ∷ meant_from true cs)

  no_group : calculations_from None cs [] ≡ meant_from false cs → option_to_list (option_map calculation_of (cond (continues cs) None None)) ++ calculations_from None cs [] ≡ meant_from false cs
  no_group rest = by (continues cs)
    where
      by : (b : Bool) → option_to_list (option_map calculation_of (cond b None None)) ++ calculations_from None cs [] ≡ meant_from false cs
      by true = rest
      by false = rest

  -- the next card joins the open group or doesn't
  Grows : CalculationGroup → CalculationSpec → List (Calculation Key) → Bool → Bool → Type 0
  Grows g k xs b d = xs ≡ tail_of (cond b (joined_group g k) (alone k)) cs
      → option_to_list (option_map calculation_of (cond b None (Some g))) ++ xs
      ≡ calculation_of (cond b (completed (joined_group g k) cs) g) ∷ (cond d [] (meant_calculation k (joined_after cs) ∷ []) ++ meant_from true cs)

  grown : ((g : CalculationGroup) → tail_of g cs ≡ calculation_of (completed g cs) ∷ meant_from true cs) → (g : CalculationGroup) (k : CalculationSpec) (xs : List (Calculation Key)) (b : Bool) → Grows g k xs b b
  unfolding Grows
  grown rest g k xs true e = e ∙ rest (joined_group g k)
  grown rest g k xs false e = λ i. calculation_of g ∷ (e ∙ alone_same rest k) i

  after_group : ((g : CalculationGroup) → tail_of g cs ≡ calculation_of (completed g cs) ∷ meant_from true cs) → calculations_from None cs [] ≡ meant_from false cs → (g : CalculationGroup) (o : Option CalculationSpec) (xs : List (Calculation Key))
      → xs ≡ option_to_list (option_map calculation_of (cond (continues cs) None (option_map (group_with (Some g)) o))) ++ calculations_from (option_map (group_with (Some g)) o) cs []
      → option_to_list (option_map calculation_of (cond (option_map_or (λ k. joins k.control_level) o false) None (Some g))) ++ xs
      ≡ calculation_of (option_map_or (λ k. cond (joins k.control_level) (completed (joined_group g k) cs) g) o g)
      ∷ (option_map_or (λ k. cond (is_continuation k.control_level) [] (meant_calculation k (joined_after cs) ∷ [])) o [] ++ meant_from (is_some o) cs)
  unfolding Grows tail_of
  after_group go none g None xs e = λ i. calculation_of g ∷ (e ∙ no_group none) i
  after_group go none g (Some k) xs e = subst (λ b. Grows g k xs b (is_continuation k.control_level)) (sym (joins_same k.control_level)) (grown go g k xs (is_continuation k.control_level)) e

  following_none : ((g : CalculationGroup) → tail_of g cs ≡ calculation_of (completed g cs) ∷ meant_from true cs) → calculations_from None cs [] ≡ meant_from false cs → (o : Option CalculationSpec)
      → option_to_list (option_map calculation_of (cond (continues cs) None (option_map (group_with None) o))) ++ calculations_from (option_map (group_with None) o) cs []
      ≡ option_map_or (λ k. meant_calculation k (joined_after cs) ∷ []) o [] ++ meant_from (is_some o) cs
  unfolding tail_of
  following_none go none None = no_group none
  following_none go none (Some k) = alone_same go k

first_card : (o : Option CalculationGroup) (c : SpecCard) (cs : List SpecCard)
    → calculations_from o (c ∷ cs) [] ≡ option_to_list (option_map calculation_of (cond (continues cs) None (open_with o c.spec))) ++ calculations_from (open_with o c.spec) cs []
first_card o c cs = ap (λ (after : List SpecCard). option_to_list (option_map calculation_of (cond (continues after) None (open_with o c.spec))) ++ calculations_from (open_with o c.spec) cs []) (append_none cs)

record Same (cs : List SpecCard) : Type 0 where
  go : (g : CalculationGroup) → tail_of g cs ≡ calculation_of (completed g cs) ∷ meant_from true cs
  none : calculations_from None cs [] ≡ meant_from false cs

each_same : (cs : List SpecCard) → Same cs
unfolding tail_of
each_same [] = record { go = λ g. refl; none = refl }
each_same (c ∷ cs) =
    let r = each_same cs in
    record {
      go = λ g. after_group cs r.go r.none g (calculation_on c.spec) (calculations_from (Some g) (c ∷ cs) []) (first_card (Some g) c cs);
      none = first_card None c cs ∙ following_none cs r.go r.none (calculation_on c.spec);
    }

pub calculations_are_meant : (cards : List SpecCard) → calculations cards ≡ meant_calculations cards
calculations_are_meant cards = let r = each_same cards in r.none
