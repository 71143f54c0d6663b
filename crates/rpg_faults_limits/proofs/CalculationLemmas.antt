-- The calculations of cards with one more after them.
use Rattle.std.proofs.Common.{◌≡◌, suc, ◌+◌, ◌≤◌, ◌&&◌, Bool, true, false, cond, List, [], ◌∷◌, ◌++◌, Option, None, Some, refl, sym, ap, ◌∙◌, arith, append_assoc, append-nil}
use Rattle.std.proofs.lemmas.List.{length_push}
use Rattle.std.proofs.lemmas.List.Sums.{sum_by_push}
use Rattle.std.specs.Option.{option_map, option_map_or, option_to_list}
use Rattle.std.specs.Prelude.{is_some}
use Rattle.rpg_cards.proofs.GroupEnds.{last_card-joined}
use Rattle.rpg_cards.specs.Calculations.{CalculationGroup, alone, calculation_ending, calculation_of, calculations_before, calculations_from, card_ending, continues, group_at, group_with, joined_group, last_card, open_after, open_calculation_group, open_with}
use Rattle.rpg_cards.specs.Statements.{Calculation, statement_of}
use Rattle.rpg_cards.specs.Keys.{Key}
use Rattle.rpg_cards.specs.Labels.{begins_subroutine, begun_count, is_begsr}
use Rattle.rpg_cards.specs.Cards.{calculation_on}
use Rattle.rpg_cards.specs.Groups.{joins}
use Rattle.rpg_cards.specs.declared.spec_card.SpecCard.{SpecCard}
use Rattle.rpg_faults_limits.specs.Limits.{calculation_count}
use Rattle.rpg_faults_limits.specs.State.{AreCalculations, is_in_subroutine, is_of_subroutine}
use Rattle.rpg_faults_limits.specs.declared.calculations.Calculations.{Calculations}
use Rattle.rpg_sheet_specs.specs.declared.calculation.CalculationSpec.{CalculationSpec}

-- ---- the group that is open after a card

pub open_after-push : (o : Option CalculationGroup) (before : List SpecCard) (c : SpecCard) → open_after o (before ++ c ∷ []) ≡ open_with (open_after o before) c.spec
open_after-push o [] c = refl
open_after-push o (d ∷ ds) c = open_after-push (open_with o d.spec) ds c

-- ---- what ends on a card

pub group_with-last : (o : Option CalculationGroup) (k : CalculationSpec) → last_card (group_with o k) ≡ k
group_with-last None k = refl
group_with-last (Some g) k = by (joins k.control_level)
  where
    by : (b : Bool) → last_card (cond b (joined_group g k) (alone k)) ≡ k
    by true = last_card-joined g k
    by false = refl

group_at-card : (o : Option CalculationGroup) (c : SpecCard) (after : List SpecCard) (k : CalculationSpec) → Some k ≡ card_ending c after → group_at o c after ≡ Some (group_with o k)
group_at-card o c after k e = by (continues after) (calculation_on c.spec) e
  where
    by : (b : Bool) (m : Option CalculationSpec) → Some k ≡ cond b None m → cond b None (option_map (group_with o) m) ≡ Some (group_with o k)
    by true m e = absurd cc
    by false m e = ap (option_map (group_with o)) (sym e)

-- the group's first card shows whether it is a subroutine's, and its last card whether that begins there
pub begins-on : (before : List SpecCard) (c : SpecCard) (after : List SpecCard) (k : CalculationSpec) → Some k ≡ card_ending c after
    → option_map_or begins_subroutine (calculation_ending before c after) false ≡ (is_of_subroutine (group_with (open_calculation_group before) k) && is_begsr (statement_of k))
begins-on before c after k e =
    ap (λ o. option_map_or begins_subroutine (option_map calculation_of o) false) (group_at-card (open_calculation_group before) c after k e)
    ∙ ap (λ j. is_of_subroutine (group_with (open_calculation_group before) k) && is_begsr (statement_of j)) (group_with-last (open_calculation_group before) k)

-- ---- one card more

calculations_from-push : (o : Option CalculationGroup) (before : List SpecCard) (c : SpecCard) (after : List SpecCard)
    → calculations_from o (before ++ c ∷ []) after ≡ calculations_from o before (c ∷ after) ++ option_to_list (option_map calculation_of (group_at (open_after o before) c after))
calculations_from-push o [] c after = append-nil (option_to_list (option_map calculation_of (group_at o c after)))
calculations_from-push o (d ∷ ds) c after =
    let here = λ (rest : List SpecCard). option_to_list (option_map calculation_of (group_at o d rest)) in
    let own = open_with o d.spec in
    ap (λ rest. here rest ++ calculations_from own (ds ++ c ∷ []) after) (append_assoc ds (c ∷ []) after)
    ∙ ap (λ gs. here (ds ++ c ∷ after) ++ gs) (calculations_from-push own ds c after)
    ∙ sym (append_assoc (here (ds ++ c ∷ after)) (calculations_from own ds (c ∷ after)) (option_to_list (option_map calculation_of (group_at (open_after own ds) c after))))

begun_count-append : (gs hs : List (Calculation Key)) → begun_count (gs ++ hs) ≡ begun_count gs + begun_count hs
begun_count-append [] hs = omega arith
begun_count-append (g ∷ gs) hs = by (begins_subroutine g) (begun_count-append gs hs)
  where
    by : (b : Bool) → begun_count (gs ++ hs) ≡ begun_count gs + begun_count hs → cond b (suc (begun_count (gs ++ hs))) (begun_count (gs ++ hs)) ≡ cond b (suc (begun_count gs)) (begun_count gs) + begun_count hs
    by true rest = omega arith
    by false rest = rest

one_begun : (o : Option (Calculation Key)) → begun_count (option_to_list o) ≡ cond (option_map_or begins_subroutine o false) 1 0
one_begun None = refl
one_begun (Some g) = by (begins_subroutine g)
  where
    by : (b : Bool) → cond b (suc 0) 0 ≡ cond b 1 0
    by true = refl
    by false = refl

pub begun_count-push : (before : List SpecCard) (c : SpecCard) (after : List SpecCard)
    → begun_count (calculations_before (before ++ c ∷ []) after) ≡ begun_count (calculations_before before (c ∷ after)) + cond (option_map_or begins_subroutine (calculation_ending before c after) false) 1 0
begun_count-push before c after =
    ap begun_count (calculations_from-push None before c after)
    ∙ begun_count-append (calculations_before before (c ∷ after)) (option_to_list (calculation_ending before c after))
    ∙ ap (λ n. begun_count (calculations_before before (c ∷ after)) + n) (one_begun (calculation_ending before c after))

pub is_in_subroutine-push : (before : List SpecCard) (c : SpecCard) (m : Option CalculationSpec) → m ≡ calculation_on c.spec
    → is_in_subroutine (before ++ c ∷ []) ≡ option_map_or is_of_subroutine (option_map (group_with (open_calculation_group before)) m) false
is_in_subroutine-push before c m is =
    ap (λ g. option_map_or is_of_subroutine g false) (open_after-push None before c) ∙ ap (λ k. option_map_or is_of_subroutine (option_map (group_with (open_calculation_group before)) k) false) (sym is)

-- ---- what is counted

pub calculations-push : (before : List SpecCard) (c : SpecCard) (after : List SpecCard) (old new : Calculations) (card begun : Bool) → AreCalculations before (c ∷ after) old
    → card ≡ is_some (calculation_on c.spec) → new.cards ≡ old.cards + cond card 1 0
    → begun ≡ option_map_or begins_subroutine (calculation_ending before c after) false → new.subroutines ≡ old.subroutines + cond begun 1 0
    → new.is_subroutine ≡ is_in_subroutine (before ++ c ∷ []) → AreCalculations (before ++ c ∷ []) after new
calculations-push before c after old new card begun was is_card cards is_begun subroutines inside =
    let longer = length_push before c in
    let counted : calculation_count (before ++ c ∷ []) ≡ calculation_count before + cond card 1 0 =
    sum_by_push (λ (d : SpecCard). cond (is_some (calculation_on d.spec)) 1 0) before c ∙ ap (λ b. calculation_count before + cond b 1 0) (sym is_card) in
    let more : begun_count (calculations_before (before ++ c ∷ []) after) ≡ begun_count (calculations_before before (c ∷ after)) + cond begun 1 0 =
    begun_count-push before c after ∙ ap (λ b. begun_count (calculations_before before (c ∷ after)) + cond b 1 0) (sym is_begun) in
    let one = at_most_one card in
    let other = at_most_one begun in
    let old_cards = was.few_cards in
    let old_subroutines = was.few_subroutines in
    record {
      cards = cards ∙ ap (λ n. n + cond card 1 0) was.cards ∙ sym counted;
      subroutines = subroutines ∙ ap (λ n. n + cond begun 1 0) was.subroutines ∙ sym more;
      is_subroutine = inside;
      few_cards = omega arith;
      few_subroutines = omega arith;
    }
  where
    at_most_one : (b : Bool) → cond b 1 0 ≤ 1
    at_most_one true = omega arith
    at_most_one false = omega arith
