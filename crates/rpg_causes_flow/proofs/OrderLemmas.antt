-- F12 of calculation cards: there is a cause exactly if the rule is broken.
use Rattle.std.proofs.Common.{◌≡◌, ℕ, ◌+◌, Bool, true, false, not, cond, ◌&&◌, ◌||◌, List, [], ◌∷◌, ◌++◌, Option, None, Some, refl, sym, ap, ◌∙◌}
use Rattle.std.specs.List.{cons_option, last_or, list_any}
use Rattle.std.specs.Option.{option_and_then, option_map, option_map_or, option_or, option_to_list}
use Rattle.std.specs.Prelude.{is_some, nat_lt}
use Rattle.rpg_cards.specs.Calculations.{CalculationGroup, alone, calculation_of, calculations_before, calculations_from, card_ending, completed, group_at, group_end, group_with, joined_group, open_calculation_group, open_with}
use Rattle.rpg_cards.specs.Cards.{calculation_on, calculation_specs_in}
use Rattle.rpg_cards.specs.Statements.{Acts, Begins, Calculation, Statement, Ends, Executes, GoesTo, Marks, Nothing, WritesExceptions, statement_of}
use Rattle.rpg_cards.specs.Groups.{joins}
use Rattle.rpg_cards.specs.Keys.{Key}
use Rattle.rpg_cards.specs.Labels.{begins_subroutine, brackets, ends, is_begsr, is_endsr, is_inside_subroutine}
use Rattle.rpg_cards.specs.Sections.{is_subroutine}
use Rattle.rpg_cards.specs.declared.spec_card.SpecCard.{SpecCard}
use Rattle.rpg_causes_flow.proofs.Options.{or_none, some_if, some_or, unless_some}
use Rattle.rpg_causes_flow.specs.Order.{begun_name, bracket_card, closes, first_above, first_later, if_above, if_outside, last_bracket, next_bracket, of_end, of_group, opens, order_cause}
use Rattle.rpg_causes_flow.specs.declared.brackets.Bracket.{Bracket}
use Rattle.rpg_causes_flow.specs.declared.flow.Later.{Later}
use Rattle.rpg_causes_flow.specs.declared.order.OrderCause.{OrderCause}
use Rattle.rpg_causes_flow.specs.declared.order.OrderCause.TheVariants.{Early, NoBegsr, NoEndsr, Outside, OutsideSection, Unjoined}
use Rattle.rpg_faults_flow.proofs.Ending.{group_at-is}
use Rattle.rpg_causes_flow.proofs.Carried.{bracket_at-is, closed_by, closed_step, level_in-is, level_with-is}
use Rattle.rpg_faults_flow.proofs.Facts.{last_with}
use Rattle.rpg_causes_flow.specs.ByCard.{bracket_at, bracket_of, calculation_level, level_with}
use Rattle.rpg_faults_flow.specs.Order.{breaks_calculation, breaks_group, breaks_order, is_bracket, is_closed, is_early, is_outside_subroutine, section_rank}
use Rattle.rpg_causes_flow.specs.ByCard.{level_of_group}
use Rattle.rpg_sheet_specs.specs.declared.calculation.CalculationSpec.{CalculationSpec}
use Rattle.rpg_sheet_specs.specs.declared.calculation.ControlLevel.{ControlLevel}
use Rattle.rpg_sheet_specs.specs.declared.calculation.ControlLevel.TheVariants as control

-- ---- the last bracket before

pub never_both : (d : Statement Key) → (is_begsr d && is_endsr d) ≡ false
never_both (Begins n) = refl
never_both (Ends l) = refl
never_both (Acts a) = refl
never_both WritesExceptions = refl
never_both (GoesTo l) = refl
never_both (Executes n) = refl
never_both (Marks l) = refl
never_both Nothing = refl

one_of_two : (s b e : Bool) → (b && e) ≡ false → ((s && b) || (s && e)) ≡ true → (s && b) ≡ not (s && e)
one_of_two false b e never one = absurd cc
one_of_two true true true never one = absurd cc
one_of_two true true false never one = refl
one_of_two true false true never one = refl
one_of_two true false false never one = absurd cc

abbrev pub mark_at : ℕ → Bool → Bracket
mark_at n is_end = record { card = n; is_end = is_end }

abbrev pub mark : SpecCard → Bool → Bracket
mark c is_end = mark_at c.number is_end

-- a subroutine is open after a bracket, or else as before
abbrev open_by : Option Bracket → Bool → Bool
open_by b before = option_map_or (λ (x : Bracket). not x.is_end) b before

abbrev begun : Option (Calculation Key) → Bool
begun d = option_map_or begins_subroutine d false

inside_from : (o : Option CalculationGroup) (d : Option (Calculation Key)) (before after : List SpecCard)
    → begun (last_or d (brackets (calculations_from o before after))) ≡ open_by (last_bracket (level_of_group o) before after) (begun d)
inside_from o d [] after = refl
inside_from o d (c ∷ cs) after =
    step (λ e. inside_from (open_with o c.spec) e cs after ∙ ap (λ l. open_by (last_bracket l cs after) (begun e)) (level_with-is o c)) (option_map calculation_of (group_at o c (cs ++ after)))
    ∙ ap (λ x. open_by (option_or later (option_map (mark c) x)) (begun d)) (bracket_at-is o c (cs ++ after))
  where
    rest : List (Calculation Key)
    rest = calculations_from (open_with o c.spec) cs after

    later : Option Bracket
    later = last_bracket (level_with (level_of_group o) c) cs after

    following : (g : Calculation Key) (b : Option Bracket) → begins_subroutine g ≡ not (ends g)
        → open_by b (begins_subroutine g) ≡ open_by (option_or b (Some (mark c (ends g)))) (begun d)
    following g None e = e
    following g (Some x) e = refl

    by : ((e : Option (Calculation Key)) → begun (last_or e (brackets rest)) ≡ open_by later (begun e)) → (g : Calculation Key) (t : Bool) → (begins_subroutine g || ends g) ≡ t
        → begun (last_or d (cond t (g ∷ brackets rest) (brackets rest))) ≡ open_by (option_or later (option_map (mark c) (cond t (Some (ends g)) None))) (begun d)
    by known g true e = known (Some g) ∙ following g later (one_of_two (is_subroutine g.control) (is_begsr g.statement) (is_endsr g.statement) (never_both g.statement) e)
    by known g false e = known d ∙ ap (λ b. open_by b (begun d)) (sym (or_none later))

    step : ((e : Option (Calculation Key)) → begun (last_or e (brackets rest)) ≡ open_by later (begun e)) → (x : Option (Calculation Key))
        → begun (last_or d (brackets (option_to_list x ++ rest))) ≡ open_by (option_or later (option_map (mark c) (option_and_then bracket_of x))) (begun d)
    step known None = known d ∙ ap (λ b. open_by b (begun d)) (sym (or_none later))
    step known (Some g) = by known g (begins_subroutine g || ends g) refl

pub inside_is : (before after : List SpecCard) → is_inside_subroutine (calculations_before before after) ≡ opens (last_bracket None before after)
inside_is before after = inside_from None None before after

-- ---- the next bracket

closed_is : (o : Option CalculationGroup) (after : List SpecCard) → is_closed (brackets (calculations_from o after [])) ≡ closes (next_bracket (level_of_group o) after)
closed_is o [] = refl
closed_is o (c ∷ cs) =
    closed_step o c cs
    ∙ by (bracket_at (level_of_group o) c cs) (closed_is (open_with o c.spec) cs ∙ ap (λ l. closes (next_bracket l cs)) (level_with-is o c))
  where
    by : (x : Option Bool) → is_closed (brackets (calculations_from (open_with o c.spec) cs [])) ≡ closes (next_bracket (level_with (level_of_group o) c) cs)
        → closed_by x (is_closed (brackets (calculations_from (open_with o c.spec) cs []))) ≡ closes (option_or (option_map (mark c) x) (next_bracket (level_with (level_of_group o) c) cs))
    by None e = e
    by (Some b) e = refl

-- ---- on the first card of a group

above_is : (r : ℕ) (cards : List SpecCard) → is_some (first_above r cards) ≡ list_any (λ (j : CalculationSpec). nat_lt r (section_rank j.control_level)) (calculation_specs_in cards)
above_is r [] = refl
above_is r (c ∷ cs) = by (calculation_on c.spec) (above_is r cs)
  where
    test : (j : CalculationSpec) → is_some (option_or (if_above r c j) (first_above r cs)) ≡ (nat_lt r (section_rank j.control_level) || is_some (first_above r cs))
    test j = some_or (if_above r c j) (first_above r cs) ∙ ap (λ b. b || is_some (first_above r cs)) (some_if {X = Later} (record { level = j.control_level; card = c.number }) (nat_lt r (section_rank j.control_level)))

    by : (x : Option CalculationSpec) → is_some (first_above r cs) ≡ list_any (λ (j : CalculationSpec). nat_lt r (section_rank j.control_level)) (calculation_specs_in cs)
        → is_some (option_or (option_and_then (if_above r c) x) (first_above r cs)) ≡ list_any (λ (j : CalculationSpec). nat_lt r (section_rank j.control_level)) (cons_option x (calculation_specs_in cs))
    by None e = e
    by (Some j) e = test j ∙ ap (λ b. nat_lt r (section_rank j.control_level) || b) e

later_is : (own : ControlLevel) (cards : List SpecCard)
    → is_some (first_later own cards) ≡ list_any (λ (j : CalculationSpec). nat_lt (section_rank own) (section_rank j.control_level)) (calculation_specs_in cards)
later_is own cards = by (first_above (section_rank own) cards) ∙ above_is (section_rank own) cards
  where
    by : (l : Option Later) → is_some (option_map (λ (x : Later). Early own x.level x.card) l) ≡ is_some l
    by None = refl
    by (Some x) = refl

-- no section is later than that of subroutines
not_above : (l : ControlLevel) → nat_lt 2 (section_rank l) ≡ false
not_above control.Detail = refl
not_above (control.Total i) = refl
not_above control.Subroutine = refl
not_above control.And = refl
not_above control.Or = refl

abbrev later_at : ControlLevel → ℕ → Later
later_at l n = record { level = l; card = n }

pub none_above : (cards : List SpecCard) → first_above 2 cards ≡ None
none_above [] = refl
none_above (c ∷ cs) = by (calculation_on c.spec) (none_above cs)
  where
    by : (x : Option CalculationSpec) → first_above 2 cs ≡ None → option_or (option_and_then (if_above 2 c) x) (first_above 2 cs) ≡ None
    by None e = e
    by (Some j) e = ap (λ b. option_or (cond b (Some (later_at j.control_level c.number)) None) (first_above 2 cs)) (not_above j.control_level) ∙ e

first_completed : (g : CalculationGroup) (after : List SpecCard) → (completed g after).first ≡ g.first
first_completed g [] = refl
first_completed g (c ∷ cs) = by (calculation_on c.spec) (λ k. first_completed (joined_group g k) cs)
  where
    inner : (k : CalculationSpec) (b : Bool) → (completed (joined_group g k) cs).first ≡ g.first → (cond b (completed (joined_group g k) cs) g).first ≡ g.first
    inner k true e = e
    inner k false e = refl

    by : (x : Option CalculationSpec) → ((k : CalculationSpec) → (completed (joined_group g k) cs).first ≡ g.first)
        → (option_map_or (λ k. cond (joins k.control_level) (completed (joined_group g k) cs) g) x g).first ≡ g.first
    by None e = refl
    by (Some k) e = inner k (joins k.control_level) (e k)

module _ (before : List SpecCard) (c : SpecCard) (after : List SpecCard) where
  abbrev front : List (Calculation Key)
  front = calculations_before before (c ∷ after)

  abbrev last : Option Bracket
  last = last_bracket None before (c ∷ after)

  abbrev outside : CalculationSpec → CalculationSpec → Bool → Bool
  outside first k inside = is_subroutine first.control_level && (not (is_bracket (statement_of (group_end k after))) && not inside)

  outside_is : (k : CalculationSpec) → is_some (if_outside k after last) ≡ is_outside_subroutine front (completed (alone k) after)
  outside_is k =
      some_if (Outside (bracket_card last)) (outside k k (opens last))
      ∙ ap (outside k k) (sym (inside_is before (c ∷ after)))
      ∙ ap (λ (j : CalculationSpec). outside j k (is_inside_subroutine front)) (sym (first_completed (alone k) after))

  group_rule : (b : Bool) (k : CalculationSpec) → is_some (of_group b before c k after) ≡ breaks_group b before c k after
  group_rule true k = unless_some Unjoined (open_calculation_group before)
  group_rule false k =
      some_or (first_later k.control_level before) (if_outside k after last)
      ∙ ap (λ b. b || is_some (if_outside k after last)) (later_is k.control_level before)
      ∙ ap (λ b. is_early before k || b) (outside_is k)

  -- ---- on the last card of a group

  either : (x y : OrderCause) (p q : Bool) → is_some (option_or (cond p (Some x) None) (cond q (Some y) None)) ≡ (p || q)
  either x y true q = refl
  either x y false q = some_if y q

  never : (x : Bool) → false ≡ (x && false)
  never true = refl
  never false = refl

  alone_or : (x : Bool) → x ≡ ((x && true) || false)
  alone_or true = refl
  alone_or false = refl

  section_cases : (x y z : OrderCause) (s b e i cl : Bool)
      → is_some (cond s (option_or (cond (e && not i) (Some x) None) (cond (b && not cl) (Some y) None)) (cond (b || e) (Some z) None))
      ≡ (((b || e) && not s) || (((s && e) && not i) || ((s && b) && not cl)))
  section_cases x y z true b e i cl = either x y (e && not i) (b && not cl) ∙ ap (λ n. n || ((e && not i) || (b && not cl))) (never (b || e))
  section_cases x y z false b e i cl = some_if z (b || e) ∙ alone_or (b || e)

  abbrev unpaired_by : ControlLevel → Bool → Bool → Statement Key → Bool
  unpaired_by l i cl d = ((is_begsr d || is_endsr d) && not (is_subroutine l)) || (((is_subroutine l && is_endsr d) && not i) || ((is_subroutine l && is_begsr d) && not cl))

  end_rule : (k : CalculationSpec) → is_some (of_end before c after k) ≡ breaks_calculation before c after (group_with (open_calculation_group before) k)
  end_rule k =
      section_cases (NoBegsr (bracket_card last)) (NoEndsr (begun_name k) (bracket_card (next_bracket (Some level) after))) (OutsideSection (is_endsr (statement_of k))) (is_subroutine level) (is_begsr (statement_of k)) (is_endsr (statement_of k)) (opens last) (closes (next_bracket (Some level) after))
      ∙ ap (λ i. unpaired_by level i (closes (next_bracket (Some level) after)) (statement_of k)) (sym (inside_is before (c ∷ after)))
      ∙ ap (λ l. unpaired_by l (is_inside_subroutine front) (closes (next_bracket (Some l) after)) (statement_of k)) (sym (level_in-is (open_calculation_group before) k))
      ∙ ap (λ cl. unpaired_by g.first.control_level (is_inside_subroutine front) cl (statement_of k)) (sym (closed_is (Some g) after))
      ∙ ap (λ (j : CalculationSpec). unpaired_by g.first.control_level (is_inside_subroutine front) (is_closed (brackets (calculations_from (Some g) after []))) (statement_of j)) (sym (last_with (open_calculation_group before) k))
    where
      level : ControlLevel
      level = calculation_level (level_of_group (open_calculation_group before)) k

      g : CalculationGroup
      g = group_with (open_calculation_group before) k

  -- there is a cause where the rule is broken
  pub order_rule : is_some (order_cause before c after) ≡ breaks_order before c after
  order_rule =
      some_or (option_and_then (λ k. of_group (joins k.control_level) before c k after) (calculation_on c.spec)) (option_and_then (of_end before c after) (card_ending c after))
      ∙ ap (λ b. b || is_some (option_and_then (of_end before c after) (card_ending c after))) (on_first (calculation_on c.spec))
      ∙ ap (λ b. option_map_or (λ k. breaks_group (joins k.control_level) before c k after) (calculation_on c.spec) false || b) (on_last (card_ending c after))
      ∙ ap (λ x. option_map_or (λ k. breaks_group (joins k.control_level) before c k after) (calculation_on c.spec) false || option_map_or (breaks_calculation before c after) x false) (sym (group_at-is (open_calculation_group before) c after))
    where
      on_first : (x : Option CalculationSpec) → is_some (option_and_then (λ k. of_group (joins k.control_level) before c k after) x) ≡ option_map_or (λ k. breaks_group (joins k.control_level) before c k after) x false
      on_first None = refl
      on_first (Some k) = group_rule (joins k.control_level) k

      on_last : (x : Option CalculationSpec) → is_some (option_and_then (of_end before c after) x) ≡ option_map_or (breaks_calculation before c after) (option_map (group_with (open_calculation_group before)) x) false
      on_last None = refl
      on_last (Some k) = end_rule k
