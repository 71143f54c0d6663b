-- What the cards before a card have come to, with one more card.
use Rattle.std.proofs.Common.{◌≡◌, ℕ, suc, ◌+◌, ◌*◌, ◌≤◌, Bool, true, false, not, cond, ◌&&◌, ◌||◌, List, [], ◌∷◌, ◌++◌, length, take, Option, Some, None, refl, sym, ap, ◌∙◌, arith, append_assoc, append-nil, length-append}
use Rattle.std.specs.Option.{option_and_then, option_map, option_or, option_to_list}
use Rattle.rpg_cards.specs.Calculations.{CalculationGroup, calculation_of, calculations_before, calculations_from, group_at, open_after, open_calculation_group, open_with}
use Rattle.rpg_cards.specs.Cards.{calculation_on}
use Rattle.rpg_cards.specs.Statements.{Calculation}
use Rattle.rpg_cards.proofs.ItemLemmas.{definitions-append, definitions-push, few_definitions}
use Rattle.rpg_cards.specs.Names.{definitions, definitions_on, is_new_name}
use Rattle.rpg_cards.specs.Keys.{Key}
use Rattle.rpg_cards.specs.Labels.{begins_subroutine, begun_count, is_begsr, is_endsr}
use Rattle.rpg_cards.specs.Sections.{is_subroutine}
use Rattle.rpg_cards.specs.declared.spec_card.SpecCard.{SpecCard}
use Rattle.rpg_causes_flow.proofs.Carried.{bracket_at-is, level_with-is}
use Rattle.rpg_causes_flow.proofs.Options.{or_assoc, or_none}
use Rattle.rpg_causes_flow.proofs.OrderLemmas.{mark, never_both}
use Rattle.rpg_causes_flow.specs.ByCard.{bracket_of, level_of_group, level_with}
use Rattle.rpg_causes_flow.specs.Flow.{IsFlow, begun_after}
use Rattle.rpg_causes_flow.specs.Order.{bracket_on, first_above, if_above, last_bracket}
use Rattle.rpg_causes_flow.specs.declared.flow.Flow.{Flow}
use Rattle.std.proofs.Math.Seq.{take-length}
use Rattle.std.proofs.lemmas.List.{take-append-le}
use Rattle.rpg_faults_flow.proofs.Ending.{pushed}
use Rattle.rpg_faults_flow.specs.Flow.{is_defined}
use Rattle.rpg_faults_flow.proofs.Walk.{open_after-push}

-- ---- the first card of a later section

above-push : (r : ℕ) (before : List SpecCard) (c : SpecCard) → first_above r (before ++ c ∷ []) ≡ option_or (first_above r before) (option_and_then (if_above r c) (calculation_on c.spec))
above-push r [] c = or_none (option_and_then (if_above r c) (calculation_on c.spec))
above-push r (d ∷ ds) c =
    ap (option_or (option_and_then (if_above r d) (calculation_on d.spec))) (above-push r ds c)
    ∙ sym (or_assoc (option_and_then (if_above r d) (calculation_on d.spec)) (first_above r ds) (option_and_then (if_above r c) (calculation_on c.spec)))

-- ---- the last BEGSR or ENDSR

last-push : (o : Option CalculationGroup) (before : List SpecCard) (c : SpecCard) (after : List SpecCard)
    → last_bracket (level_of_group o) (before ++ c ∷ []) after ≡ option_or (bracket_on (level_of_group (open_after o before)) c after) (last_bracket (level_of_group o) before (c ∷ after))
last-push o [] c after = sym (or_none (bracket_on (level_of_group o) c after))
last-push o (d ∷ ds) c after =
    ap (λ l. option_or (last_bracket l (ds ++ c ∷ []) after) (bracket_on (level_of_group o) d ((ds ++ c ∷ []) ++ after))) (sym (level_with-is o d))
    ∙ ap (λ (cs : List SpecCard). option_or (last_bracket (level_of_group (open_with o d.spec)) (ds ++ c ∷ []) after) (bracket_on (level_of_group o) d cs)) (append_assoc ds (c ∷ []) after)
    ∙ ap (λ b. option_or b (bracket_on (level_of_group o) d (ds ++ c ∷ after))) (last-push (open_with o d.spec) ds c after)
    ∙ or_assoc (bracket_on (level_of_group (open_after o (d ∷ ds))) c after) (last_bracket (level_of_group (open_with o d.spec)) ds (c ∷ after)) (bracket_on (level_of_group o) d (ds ++ c ∷ after))
    ∙ ap (λ l. option_or (bracket_on (level_of_group (open_after o (d ∷ ds))) c after) (option_or (last_bracket l ds (c ∷ after)) (bracket_on (level_of_group o) d (ds ++ c ∷ after)))) (level_with-is o d)

-- ---- how many subroutines have begun

begun_cases : (n : ℕ) (c : SpecCard) (s b e : Bool) → (b && e) ≡ false → cond (s && b) (suc n) n ≡ begun_after n (option_map (mark c) (cond ((s && b) || (s && e)) (Some (s && e)) None))
begun_cases n c false b e h = refl
begun_cases n c true true true h = absurd cc
begun_cases n c true true false h = omega arith
begun_cases n c true false true h = refl
begun_cases n c true false false h = refl

begun_last : (gs : List (Calculation Key)) (g : Calculation Key) → begun_count (gs ++ g ∷ []) ≡ cond (begins_subroutine g) (suc (begun_count gs)) (begun_count gs)
begun_last [] g = refl
begun_last (h ∷ hs) g = by (begins_subroutine h) (begins_subroutine g) (begun_last hs g)
  where
    by : (a b : Bool) → begun_count (hs ++ g ∷ []) ≡ cond b (suc (begun_count hs)) (begun_count hs)
        → cond a (suc (begun_count (hs ++ g ∷ []))) (begun_count (hs ++ g ∷ [])) ≡ cond b (suc (cond a (suc (begun_count hs)) (begun_count hs))) (cond a (suc (begun_count hs)) (begun_count hs))
    by true true e = ap suc e
    by true false e = ap suc e
    by false b e = e

begun-push : (before : List SpecCard) (c : SpecCard) (after : List SpecCard)
    → begun_count (calculations_before (before ++ c ∷ []) after) ≡ begun_after (begun_count (calculations_before before (c ∷ after))) (bracket_on (level_of_group (open_calculation_group before)) c after)
begun-push before c after =
    ap begun_count (pushed before c after) ∙ by (option_map calculation_of (group_at (open_calculation_group before) c after))
    ∙ ap (λ b. begun_after (begun_count front) (option_map (mark c) b)) (bracket_at-is (open_calculation_group before) c after)
  where
    front : List (Calculation Key)
    front = calculations_before before (c ∷ after)

    by : (x : Option (Calculation Key)) → begun_count (front ++ option_to_list x) ≡ begun_after (begun_count front) (option_map (mark c) (option_and_then bracket_of x))
    by None = ap begun_count (append-nil front)
    by (Some g) = begun_last front g ∙ begun_cases (begun_count front) c (is_subroutine g.control) (is_begsr g.statement) (is_endsr g.statement) (never_both g.statement)

few_begun : (o : Option CalculationGroup) (before after : List SpecCard) → begun_count (calculations_from o before after) ≤ length before
few_begun o [] after = omega arith
few_begun o (c ∷ cs) after = by (option_map calculation_of (group_at o c (cs ++ after))) (few_begun (open_with o c.spec) cs after)
  where
    one : (n : ℕ) (b : Bool) → n ≤ length cs → cond b (suc n) n ≤ length (c ∷ cs)
    one n true h = omega arith
    one n false h = omega arith

    by : (x : Option (Calculation Key)) → begun_count (calculations_from (open_with o c.spec) cs after) ≤ length cs → begun_count (option_to_list x ++ calculations_from (open_with o c.spec) cs after) ≤ length (c ∷ cs)
    by None h = omega arith
    by (Some g) h = one (begun_count (calculations_from (open_with o c.spec) cs after)) (begins_subroutine g) h

pub record IsFew (most : ℕ) (f : Flow) : Type 0 where
  pub begun : f.begun ≤ most
  pub definitions : f.definitions ≤ 2 * most

pub few : (before rest : List SpecCard) (f : Flow) → IsFlow before rest f → IsFew (length before) f
few before rest f is = record {
  begun = let e = is.begun in let n = few_begun None before rest in omega arith;
  definitions = let e = is.definitions in let n = few_definitions before in omega arith;
}

-- ---- all of it

pub flow_with : (before : List SpecCard) (c : SpecCard) (after : List SpecCard) (f new : Flow) → IsFlow before (c ∷ after) f
    → new.group ≡ level_with f.group c → new.total ≡ option_or f.total (option_and_then (if_above 0 c) (calculation_on c.spec)) → new.subroutine ≡ option_or f.subroutine (option_and_then (if_above 1 c) (calculation_on c.spec))
    → new.bracket ≡ option_or (bracket_on f.group c after) f.bracket → new.begun ≡ begun_after f.begun (bracket_on f.group c after) → new.definitions ≡ f.definitions + length (definitions_on c.spec)
    → IsFlow (before ++ c ∷ []) after new
flow_with before c after f new was group total subroutine bracket begun defined = record {
  group = group ∙ ap (λ l. level_with l c) was.group ∙ sym (level_with-is (open_calculation_group before) c) ∙ ap level_of_group (sym (open_after-push None before c));
  total = total ∙ ap (λ x. option_or x (option_and_then (if_above 0 c) (calculation_on c.spec))) was.total ∙ sym (above-push 0 before c);
  subroutine = subroutine ∙ ap (λ x. option_or x (option_and_then (if_above 1 c) (calculation_on c.spec))) was.subroutine ∙ sym (above-push 1 before c);
  bracket = bracket ∙ ap (λ l. option_or (bracket_on l c after) f.bracket) was.group ∙ ap (option_or (bracket_on (level_of_group (open_calculation_group before)) c after)) was.bracket ∙ sym (last-push None before c after);
  begun = begun ∙ ap (λ n. begun_after n (bracket_on f.group c after)) was.begun ∙ ap (λ l. begun_after (begun_count (calculations_before before (c ∷ after))) (bracket_on l c after)) was.group ∙ sym (begun-push before c after);
  definitions = defined ∙ ap (λ n. n + length (definitions_on c.spec)) was.definitions ∙ sym (length-append (definitions before) (definitions_on c.spec)) ∙ ap length (sym (definitions-push before c));
}

-- ---- the definitions up to a card are the first of all

double_not : (b : Bool) → not (not b) ≡ b
double_not true = refl
double_not false = refl

module _ (before : List SpecCard) (c : SpecCard) (after : List SpecCard) where
  abbrev here : List SpecCard
  here = before ++ c ∷ []

  taken : (source : List SpecCard) (n : ℕ) → source ≡ before ++ c ∷ after → n ≡ length (definitions here) → take n (definitions source) ≡ definitions here
  taken source n split is =
      ap (λ m. take m (definitions source)) is
      ∙ ap (λ (cs : List SpecCard). take (length (definitions here)) (definitions cs)) (split ∙ sym (append_assoc before (c ∷ []) after))
      ∙ ap (take (length (definitions here))) (definitions-append here after)
      ∙ take-append-le (length (definitions here)) (definitions here) (definitions after) (omega arith)
      ∙ take-length (definitions here)

  pub defined_is : (f : Flow) → IsFlow before (c ∷ after) f → (source : List SpecCard) (len : ℕ) (name : List ℕ) → source ≡ before ++ c ∷ after → len ≡ length (definitions_on c.spec)
      → is_defined name (definitions here) ≡ not (is_new_name name (take (f.definitions + len) (definitions source)))
  defined_is f is source len name split counted =
      sym (ap (λ ds. not (is_new_name name ds)) (taken source (f.definitions + len) split
      (ap (λ n. n + len) is.definitions ∙ ap (λ n. length (definitions before) + n) counted ∙ sym (length-append (definitions before) (definitions_on c.spec)) ∙ ap length (sym (definitions-push before c))))
      ∙ double_not (is_defined name (definitions here)))
