-- Labels and calls, card by card.
use Rattle.std.proofs.Common.{◌≡◌, ℕ, suc, ◌+◌, ◌-◌, Bool, true, false, cond, ◌&&◌, ◌||◌, List, [], ◌∷◌, ◌++◌, length, take, Option, Some, None, refl, sym, ap, ◌∙◌, append_assoc, append-nil, add-one, zero-add, arith, ◌≤◌}
use Rattle.std.specs.Cmp.Lexicographic.{pointwise}
use Rattle.std.specs.List.{list_any}
use Rattle.std.specs.Map.{lookup}
use Rattle.std.proofs.lemmas.Bool.Decides.{nat_tests}
use Rattle.std.specs.Prelude.{◌==◌, is_some, nat_eq, nat_lt}
use Rattle.std.proofs.Math.Bool.{or-true}
use Rattle.std.proofs.lemmas.Bool.{eq-eqb}
use Rattle.std.specs.Option.{option_and_then, option_map, option_or, option_to_list}
use Rattle.std.proofs.lemmas.List.Folds.{list_any-append}
use Rattle.rpg_cards.specs.Calculations.{CalculationGroup, calculation_of, calculations, calculations_before, calculations_from, card_ending, group_at, group_with, open_after, open_calculation_group, open_with}
use Rattle.rpg_cards.specs.Calls as calls_of
use Rattle.rpg_cards.specs.Calls.{called_subroutine, calls_after, subroutine_in}
use Rattle.rpg_cards.specs.Keys.{Key, Name}
use Rattle.rpg_cards.specs.Labels as labels_of
use Rattle.rpg_cards.specs.Labels.{begun_count, defined_name, is_begsr, label_named, labels, labels_after, section_by, section_of, target_name}
use Rattle.rpg_cards.specs.Sections.{is_subroutine}
use Rattle.rpg_cards.specs.Statements.{Calculation, statement_of}
use Rattle.rpg_cards.specs.declared.labels.Label.{Label}
use Rattle.rpg_cards.specs.declared.labels.Named.{Named}
use Rattle.rpg_cards.specs.declared.labels.Section.{Section}
use Rattle.rpg_cards.specs.declared.labels.Section.TheVariants.{Outside, Subroutine}
use Rattle.rpg_cards.specs.declared.spec_card.SpecCard.{SpecCard}
use Rattle.rpg_causes_flow.proofs.Carried.{level_in-is}
use Rattle.rpg_causes_flow.proofs.Options.{or_assoc, or_none}
use Rattle.rpg_causes_flow.proofs.OrderLemmas.{inside_is}
use Rattle.rpg_causes_flow.specs.ByCard.{calculation_level}
use Rattle.rpg_causes_flow.specs.Flow.{IsFlow, section_at, section_in, subroutine_at}
use Rattle.rpg_causes_flow.specs.Index.{IsIndexOf, Notes, calculation_call, card_call, card_entry, entry_giver, entry_if, entry_of, entry_target, giver_on, place_from, same_call, target}
use Rattle.rpg_causes_flow.specs.Labels.{giver, giver_if, name_given_on}
use Rattle.rpg_causes_flow.specs.Order.{opens}
use Rattle.rpg_causes_flow.specs.declared.flow.Flow.{Flow}
use Rattle.rpg_causes_flow.specs.declared.index.FirstLabel.{FirstLabel}
use Rattle.rpg_causes_flow.specs.declared.labels.Giver.{Giver}
use Rattle.rpg_faults_flow.proofs.Ending.{group_at-is, pushed}
use Rattle.rpg_faults_flow.proofs.Facts.{last_with}
use Rattle.rpg_faults_flow.proofs.Walk.{ended}
use Rattle.rpg_sheet_specs.specs.declared.calculation.CalculationSpec.{CalculationSpec}
use Rattle.rpg_sheet_specs.specs.declared.calculation.ControlLevel.{ControlLevel}
use Rattle.rpg_sheet_specs.specs.declared.calculation.ControlLevel.TheVariants as control
use Rattle.rpg_symbols.specs.Chains.{Call}

-- ---- lists and options

pub front_more : {X : Type 0} (before : List X) (c : X) (after cards : List X) → cards ≡ before ++ c ∷ after → take (length before + 1) cards ≡ before ++ c ∷ []
front_more {X} before c after cards e = ap (take (length before + 1)) e ∙ ap (λ n. take n (before ++ c ∷ after)) (add-one (length before)) ∙ by before
  where
    by : (b : List X) → take (suc (length b)) (b ++ c ∷ after) ≡ b ++ c ∷ []
    by [] = refl
    by (x ∷ xs) = ap (λ l. x ∷ l) (by xs)

map_or : {X Y : Type 0} (f : X → Y) (a b : Option X) → option_map f (option_or a b) ≡ option_or (option_map f a) (option_map f b)
map_or f None b = refl
map_or f (Some x) b = refl

named-append : (q : Name) (ls ms : List Label) → label_named q (ls ++ ms) ≡ option_or (label_named q ls) (label_named q ms)
named-append q [] ms = refl
named-append q (l ∷ ls) ms = by (pointwise nat_eq q l.named.name) (named-append q ls ms)
  where
    by : (b : Bool) → label_named q (ls ++ ms) ≡ option_or (label_named q ls) (label_named q ms) → cond b (Some l) (label_named q (ls ++ ms)) ≡ option_or (cond b (Some l) (label_named q ls)) (label_named q ms)
    by true e = refl
    by false e = e

-- ---- one more calculation

labels_after-append : (before gs hs : List (Calculation Key)) → labels_after before (gs ++ hs) ≡ labels_after before gs ++ labels_after (before ++ gs) hs
labels_after-append before [] hs = ap (λ (b : List (Calculation Key)). labels_after b hs) (sym (append-nil before))
labels_after-append before (g ∷ gs) hs =
    ap (λ (ls : List Label). option_to_list (labels_of.label_at before g) ++ ls) (labels_after-append (before ++ g ∷ []) gs hs)
    ∙ sym (append_assoc (option_to_list (labels_of.label_at before g)) (labels_after (before ++ g ∷ []) gs) (labels_after ((before ++ g ∷ []) ++ gs) hs))
    ∙ ap (λ (b : List (Calculation Key)). (option_to_list (labels_of.label_at before g) ++ labels_after (before ++ g ∷ []) gs) ++ labels_after b hs) (append_assoc before (g ∷ []) gs)

calls_after-append : (given : List Label) (before gs hs : List (Calculation Key)) → calls_after given before (gs ++ hs) ≡ calls_after given before gs ++ calls_after given (before ++ gs) hs
calls_after-append given before [] hs = ap (λ (b : List (Calculation Key)). calls_after given b hs) (sym (append-nil before))
calls_after-append given before (g ∷ gs) hs =
    ap (λ (ps : List Call). option_to_list (calls_of.call_at given before g) ++ ps) (calls_after-append given (before ++ g ∷ []) gs hs)
    ∙ sym (append_assoc (option_to_list (calls_of.call_at given before g)) (calls_after given (before ++ g ∷ []) gs) (calls_after given ((before ++ g ∷ []) ++ gs) hs))
    ∙ ap (λ (b : List (Calculation Key)). (option_to_list (calls_of.call_at given before g) ++ calls_after given (before ++ g ∷ []) gs) ++ calls_after given b hs) (append_assoc before (g ∷ []) gs)

-- ---- one more card

module _ (before : List SpecCard) (c : SpecCard) (after : List SpecCard) where
  abbrev pub front : List (Calculation Key)
  front = calculations_before before (c ∷ after)

  abbrev pub group : CalculationSpec → CalculationGroup
  group k = group_with (open_calculation_group before) k

  -- the calculation that ends on the card
  abbrev pub here : Option (Calculation Key)
  here = option_map calculation_of (group_at (open_calculation_group before) c after)

  labels-next : labels (calculations_before (before ++ c ∷ []) after) ≡ labels front ++ option_to_list (option_and_then (labels_of.label_at front) here)
  labels-next = ap labels (pushed before c after) ∙ by here
    where
      by : (x : Option (Calculation Key)) → labels (front ++ option_to_list x) ≡ labels front ++ option_to_list (option_and_then (labels_of.label_at front) x)
      by None = ap labels (append-nil front) ∙ sym (append-nil (labels front))
      by (Some g) = labels_after-append [] front (g ∷ []) ∙ ap (λ (ls : List Label). labels front ++ ls) (append-nil (option_to_list (labels_of.label_at front g)))

  pub calls_next : (given : List Label) → calls_after given [] (calculations_before (before ++ c ∷ []) after) ≡ calls_after given [] front ++ option_to_list (option_and_then (calls_of.call_at given front) here)
  calls_next given = ap (calls_after given []) (pushed before c after) ∙ calls_after-append given [] front (option_to_list here) ∙ by here
    where
      by : (x : Option (Calculation Key)) → calls_after given [] front ++ calls_after given front (option_to_list x) ≡ calls_after given [] front ++ option_to_list (option_and_then (calls_of.call_at given front) x)
      by None = refl
      by (Some g) = ap (λ (ps : List Call). calls_after given [] front ++ ps) (append-nil (option_to_list (calls_of.call_at given front g)))

  giver-next : (q : Name) → giver q (before ++ c ∷ []) after ≡ option_or (giver q before (c ∷ after)) (option_and_then (giver_if q c.number) (name_given_on c after))
  giver-next q = by before
    where
      by : (b : List SpecCard) → giver q (b ++ c ∷ []) after ≡ option_or (giver q b (c ∷ after)) (option_and_then (giver_if q c.number) (name_given_on c after))
      by [] = or_none (option_and_then (giver_if q c.number) (name_given_on c after))
      by (d ∷ ds) =
          ap (λ (cs : List SpecCard). option_or (option_and_then (giver_if q d.number) (name_given_on d cs)) (giver q (ds ++ c ∷ []) after)) (append_assoc ds (c ∷ []) after)
          ∙ ap (option_or (option_and_then (giver_if q d.number) (name_given_on d (ds ++ c ∷ after)))) (by ds)
          ∙ sym (or_assoc (option_and_then (giver_if q d.number) (name_given_on d (ds ++ c ∷ after))) (giver q ds (c ∷ after)) (option_and_then (giver_if q c.number) (name_given_on c after)))

  place-next : (i : ℕ) (q : Name) (b : List SpecCard) → place_from i q (b ++ c ∷ []) after ≡ option_or (place_from i q b (c ∷ after)) (option_map (λ (g : Giver). i + length b) (giver_on q c after))
  place-next i q [] = by (giver_on q c after)
    where
      here_is : i ≡ i + 0
      here_is = omega arith

      by : (x : Option Giver) → cond (is_some x) (Some i) None ≡ option_map (λ (g : Giver). i + 0) x
      by None = refl
      by (Some g) = ap Some here_is
  place-next i q (d ∷ ds) =
      ap (λ (cs : List SpecCard). cond (is_some (giver_on q d cs)) (Some i) (place_from (suc i) q (ds ++ c ∷ []) after)) (append_assoc ds (c ∷ []) after)
      ∙ by (is_some (giver_on q d (ds ++ c ∷ after))) (place-next (suc i) q ds ∙ ap (λ n. option_or (place_from (suc i) q ds (c ∷ after)) (option_map (λ (g : Giver). n) (giver_on q c after))) more)
    where
      more : suc i + length ds ≡ i + suc (length ds)
      more = omega arith

      by : (b : Bool) → place_from (suc i) q (ds ++ c ∷ []) after ≡ option_or (place_from (suc i) q ds (c ∷ after)) (option_map (λ (g : Giver). i + suc (length ds)) (giver_on q c after))
          → cond b (Some i) (place_from (suc i) q (ds ++ c ∷ []) after) ≡ option_or (cond b (Some i) (place_from (suc i) q ds (c ∷ after))) (option_map (λ (g : Giver). i + suc (length ds)) (giver_on q c after))
      by true e = refl
      by false e = e

  -- ---- by the flow

  module _ (f : Flow) (is : IsFlow before (c ∷ after) f) where
    subroutine_is : (b : Bool) → labels_of.subroutine_at front b ≡ subroutine_at f b
    subroutine_is true = ap Subroutine (sym is.begun)
    subroutine_is false =
        ap (λ b. cond b (Subroutine (begun_count front - 1)) Outside) (inside_is before (c ∷ after) ∙ ap opens (sym is.bracket)) ∙ ap (λ n. cond (opens f.bracket) (Subroutine (n - 1)) Outside) (sym is.begun)

    section_in-is : (level : ControlLevel) (k : CalculationSpec) → section_by front (is_subroutine level && is_begsr (statement_of k)) level ≡ section_in f level k
    section_in-is control.Detail k = refl
    section_in-is (control.Total i) k = refl
    section_in-is control.Subroutine k = subroutine_is (is_begsr (statement_of k))
    section_in-is control.And k = refl
    section_in-is control.Or k = refl

    pub section_at-is : (k : CalculationSpec) → section_of front (calculation_of (group k)) ≡ section_at f k
    section_at-is k =
        ap (λ d. section_by front (is_subroutine (group k).first.control_level && is_begsr d) (group k).first.control_level) (ap statement_of (last_with (open_calculation_group before) k))
        ∙ section_in-is (group k).first.control_level k
        ∙ ap (λ l. section_in f l k) (level_in-is (open_calculation_group before) k ∙ ap (λ g. calculation_level g k) (sym is.group))

    entry_label : (q : Name) → option_map entry_target (card_entry q (length before) f c after) ≡ option_map target (label_named q (option_to_list (option_and_then (labels_of.label_at front) here)))
    entry_label q = by (card_ending c after) ∙ ap (λ x. option_map target (label_named q (option_to_list (option_and_then (labels_of.label_at front) (option_map calculation_of x))))) (sym (group_at-is (open_calculation_group before) c after))
      where
        test : (n : Named) (s : Section) (b : Bool) → option_map entry_target (cond b (Some (record { position = length before; card = c.number; is_subroutine = n.is_subroutine; section = s })) None) ≡ option_map target (cond b (Some (record { named = n; section = s })) None)
        test n s true = refl
        test n s false = refl

        named : (s : Section) (w : Option Named)
            → option_map entry_target (option_and_then (λ (n : Named). cond (pointwise nat_eq q n.name) (Some (record { position = length before; card = c.number; is_subroutine = n.is_subroutine; section = s })) None) w)
            ≡ option_map target (label_named q (option_to_list (option_map (λ (n : Named). record { named = n; section = s }) w)))
        named s None = refl
        named s (Some n) = test n s (pointwise nat_eq q n.name)

        by : (x : Option CalculationSpec) → option_map entry_target (option_and_then (entry_of q (length before) f c) x)
            ≡ option_map target (label_named q (option_to_list (option_and_then (labels_of.label_at front) (option_map calculation_of (option_map (group_with (open_calculation_group before)) x)))))
        by None = refl
        by (Some k) =
            named (section_at f k) (defined_name (statement_of k))
            ∙ ap (λ s. option_map target (label_named q (option_to_list (option_map (λ (n : Named). record { named = n; section = s }) (defined_name (statement_of k)))))) (sym (section_at-is k))
            ∙ ap (λ j. option_map target (label_named q (option_to_list (option_map (λ (n : Named). record { named = n; section = section_of front (calculation_of (group k)) }) (defined_name (statement_of j)))))) (sym (last_with (open_calculation_group before) k))

    entry_card : (q : Name) → option_map entry_giver (card_entry q (length before) f c after) ≡ option_and_then (giver_if q c.number) (name_given_on c after)
    entry_card q = by (card_ending c after)
      where
        test : (k : CalculationSpec) (n : Named) (b : Bool)
            → option_map entry_giver (cond b (Some (record { position = length before; card = c.number; is_subroutine = n.is_subroutine; section = section_at f k })) None) ≡ cond b (Some (record { card = c.number; is_subroutine = n.is_subroutine })) None
        test k n true = refl
        test k n false = refl

        named : (k : CalculationSpec) (w : Option Named) → option_map entry_giver (option_and_then (entry_if q (length before) f c k) w) ≡ option_and_then (giver_if q c.number) w
        named k None = refl
        named k (Some n) = test k n (pointwise nat_eq q n.name)

        by : (x : Option CalculationSpec) → option_map entry_giver (option_and_then (entry_of q (length before) f c) x) ≡ option_and_then (giver_if q c.number) (option_and_then (λ k. defined_name (statement_of k)) x)
        by None = refl
        by (Some k) = named k (defined_name (statement_of k))

    entry_place : (q : Name) → option_map (λ e. e.position) (card_entry q (length before) f c after) ≡ option_map (λ (g : Giver). length before) (giver_on q c after)
    entry_place q = by (card_ending c after)
      where
        test : (k : CalculationSpec) (n : Named) (b : Bool)
            → option_map (λ (e : FirstLabel). e.position) (cond b (Some (record { position = length before; card = c.number; is_subroutine = n.is_subroutine; section = section_at f k })) None)
            ≡ option_map (λ (g : Giver). length before) (cond b (Some (record { card = c.number; is_subroutine = n.is_subroutine })) None)
        test k n true = refl
        test k n false = refl

        named : (k : CalculationSpec) (w : Option Named)
            → option_map (λ (e : FirstLabel). e.position) (option_and_then (entry_if q (length before) f c k) w) ≡ option_map (λ (g : Giver). length before) (option_and_then (giver_if q c.number) w)
        named k None = refl
        named k (Some n) = test k n (pointwise nat_eq q n.name)

        by : (x : Option CalculationSpec)
            → option_map (λ (e : FirstLabel). e.position) (option_and_then (entry_of q (length before) f c) x)
            ≡ option_map (λ (g : Giver). length before) (option_and_then (giver_if q c.number) (option_and_then (λ k. defined_name (statement_of k)) x))
        by None = refl
        by (Some k) = named k (defined_name (statement_of k))

    pub index_next : (names more : List (Name × FirstLabel)) → IsIndexOf names before (c ∷ after) → Notes (λ q. card_entry q (length before) f c after) names more → IsIndexOf more (before ++ c ∷ []) after
    index_next names more index noted = record {
      labels = λ q.
          ap (option_map entry_target) (noted q) ∙ map_or entry_target (lookup (pointwise nat_eq q) names) (card_entry q (length before) f c after)
          ∙ ap (λ x. option_or x (option_map entry_target (card_entry q (length before) f c after))) (index.labels q)
          ∙ ap (option_or (option_map target (label_named q (labels front)))) (entry_label q)
          ∙ sym (map_or target (label_named q (labels front)) (label_named q (option_to_list (option_and_then (labels_of.label_at front) here))))
          ∙ ap (option_map target) (sym (named-append q (labels front) (option_to_list (option_and_then (labels_of.label_at front) here))))
          ∙ ap (λ ls. option_map target (label_named q ls)) (sym labels-next);
      givers = λ q.
          ap (option_map entry_giver) (noted q) ∙ map_or entry_giver (lookup (pointwise nat_eq q) names) (card_entry q (length before) f c after)
          ∙ ap (λ x. option_or x (option_map entry_giver (card_entry q (length before) f c after))) (index.givers q)
          ∙ ap (option_or (giver q before (c ∷ after))) (entry_card q)
          ∙ sym (giver-next q);
      places = λ q.
          ap (option_map (λ e. e.position)) (noted q) ∙ map_or (λ e. e.position) (lookup (pointwise nat_eq q) names) (card_entry q (length before) f c after)
          ∙ ap (λ x. option_or x (option_map (λ e. e.position) (card_entry q (length before) f c after))) (index.places q)
          ∙ ap (option_or (place_from 0 q before (c ∷ after))) (entry_place q ∙ ap (λ n. option_map (λ (g : Giver). n) (giver_on q c after)) (sym (zero-add (length before))))
          ∙ sym (place-next 0 q before);
    }

    pub call_at-is : (given : List Label) → option_and_then (calls_of.call_at given front) here ≡ card_call f given c after
    call_at-is given = ap (λ x. option_and_then (calls_of.call_at given front) (option_map calculation_of x)) (group_at-is (open_calculation_group before) c after) ∙ by (card_ending c after)
      where
        by : (x : Option CalculationSpec) → option_and_then (calls_of.call_at given front) (option_map calculation_of (option_map (group_with (open_calculation_group before)) x)) ≡ option_and_then (calculation_call f given) x
        by None = refl
        by (Some k) =
            ap (λ d. option_and_then (λ caller. option_map (λ callee. (caller, callee)) (option_and_then (called_subroutine given) (target_name (statement_of d)))) (subroutine_in (section_of front (calculation_of (group k))))) (last_with (open_calculation_group before) k)
            ∙ ap (λ s. option_and_then (λ caller. option_map (λ callee. (caller, callee)) (option_and_then (called_subroutine given) (target_name (statement_of k)))) (subroutine_in s)) (section_at-is k)

  -- ---- the call on a card is among all

  calculations_split : calculations (before ++ c ∷ after) ≡ front ++ calculations_from (open_calculation_group before) (c ∷ after) []
  calculations_split = by None before
    where
      by : (o : Option CalculationGroup) (b : List SpecCard) → calculations_from o (b ++ c ∷ after) [] ≡ calculations_from o b (c ∷ after) ++ calculations_from (open_after o b) (c ∷ after) []
      by o [] = refl
      by o (d ∷ ds) =
          ap (λ (gs : List (Calculation Key)). ended o d ((ds ++ c ∷ after) ++ []) ++ gs) (by (open_with o d.spec) ds)
          ∙ sym (append_assoc (ended o d ((ds ++ c ∷ after) ++ [])) (calculations_from (open_with o d.spec) ds (c ∷ after)) (calculations_from (open_after (open_with o d.spec) ds) (c ∷ after) []))
          ∙ ap (λ (cs : List SpecCard). (ended o d cs ++ calculations_from (open_with o d.spec) ds (c ∷ after)) ++ calculations_from (open_after (open_with o d.spec) ds) (c ∷ after) []) (append-nil (ds ++ c ∷ after))

  pub call_known : (given : List Label) (p : Call) → option_and_then (calls_of.call_at given front) here ≡ Some p → list_any (same_call p) (calls_after given [] (calculations (before ++ c ∷ after))) ≡ true
  call_known given p is =
      ap (λ (gs : List (Calculation Key)). list_any (same_call p) (calls_after given [] gs)) calculations_split
      ∙ ap (list_any (same_call p)) (calls_after-append given [] front (calculations_from (open_calculation_group before) (c ∷ after) []))
      ∙ ap (λ (cs : List SpecCard). list_any (same_call p) (calls_after given [] front ++ calls_after given front (ended (open_calculation_group before) c cs ++ rest))) (append-nil after)
      ∙ list_any-append (same_call p) (calls_after given [] front) (calls_after given front (option_to_list here ++ rest))
      ∙ ap (λ b. list_any (same_call p) (calls_after given [] front) || b) (by here is)
      ∙ or-true (list_any (same_call p) (calls_after given [] front))
    where
      rest : List (Calculation Key)
      rest = calculations_from (open_with (open_calculation_group before) c.spec) after []

      itself : (q : Call) → same_call q q ≡ true
      itself q = ap (λ b. b && q.1 == q.1) (eq-eqb q.0 q.0 refl) ∙ eq-eqb q.1 q.1 refl

      found : (o : Option Call) (ps : List Call) → o ≡ Some p → list_any (same_call p) (option_to_list o ++ ps) ≡ true
      found None ps e = absurd cc
      found (Some q) ps e = ap (λ x. list_any (same_call p) (option_to_list x ++ ps)) e ∙ ap (λ b. b || list_any (same_call p) ps) (itself p)

      by : (x : Option (Calculation Key)) → option_and_then (calls_of.call_at given front) x ≡ Some p → list_any (same_call p) (calls_after given front (option_to_list x ++ rest)) ≡ true
      by None e = absurd cc
      by (Some g) e = found (calls_of.call_at given front g) (calls_after given (front ++ g ∷ []) rest) e

-- ---- the card before a card that defines a name

none_before : {X : Type 0} (y : Option X) (i n : ℕ) (q : Name) (cs after : List SpecCard) → n ≤ i → option_and_then (λ p. cond (nat_lt p n) y None) (place_from i q cs after) ≡ None
none_before y i n q [] after h = refl
none_before y i n q (c ∷ cs) after h = by (is_some (giver_on q c (cs ++ after))) (none_before y (suc i) n q cs after (omega arith))
  where
    low : nat_lt i n ≡ false
    low = grind (arith, nat_tests)

    by : (b : Bool) → option_and_then (λ p. cond (nat_lt p n) y None) (place_from (suc i) q cs after) ≡ None → option_and_then (λ p. cond (nat_lt p n) y None) (cond b (Some i) (place_from (suc i) q cs after)) ≡ None
    by true e = ap (λ b. cond b y None) low
    by false e = e

by_place : (i : ℕ) (q : Name) (front rest : List SpecCard) → giver q front rest ≡ option_and_then (λ p. cond (nat_lt p (i + length front)) (giver q (front ++ rest) []) None) (place_from i q (front ++ rest) [])
by_place i q [] rest = sym (none_before (giver q rest []) i (i + 0) q rest [] (omega arith))
by_place i q (d ∷ ds) rest =
    by (giver_on q d (ds ++ rest)) (by_place (suc i) q ds rest ∙ ap (λ n. option_and_then (λ p. cond (nat_lt p n) (giver q (ds ++ rest) []) None) (place_from (suc i) q (ds ++ rest) [])) more)
    ∙ ap (λ (cs : List SpecCard). option_and_then (λ p. cond (nat_lt p (i + suc (length ds))) (option_or (giver_on q d cs) (giver q (ds ++ rest) [])) None) (cond (is_some (giver_on q d cs)) (Some i) (place_from (suc i) q (ds ++ rest) []))) (sym (append-nil (ds ++ rest)))
  where
    more : suc i + length ds ≡ i + suc (length ds)
    more = omega arith

    low : nat_lt i (i + suc (length ds)) ≡ true
    low = grind (arith, nat_tests)

    by : (x : Option Giver) → giver q ds rest ≡ option_and_then (λ p. cond (nat_lt p (i + suc (length ds))) (giver q (ds ++ rest) []) None) (place_from (suc i) q (ds ++ rest) [])
        → option_or x (giver q ds rest) ≡ option_and_then (λ p. cond (nat_lt p (i + suc (length ds))) (option_or x (giver q (ds ++ rest) [])) None) (cond (is_some x) (Some i) (place_from (suc i) q (ds ++ rest) []))
    by None e = e
    by (Some g) e = sym (ap (λ b. cond b (Some g) None) low)

pub before_is : (names : List (Name × FirstLabel)) (q : Name) (front rest : List SpecCard) (e : Option FirstLabel) → IsIndexOf names (front ++ rest) [] → e ≡ lookup (pointwise nat_eq q) names
    → giver q front rest ≡ option_and_then (λ x. cond (nat_lt x.position (length front)) (Some (entry_giver x)) None) e
before_is names q front rest e index found =
    by_place 0 q front rest
    ∙ ap (λ n. option_and_then (λ p. cond (nat_lt p n) (giver q (front ++ rest) []) None) (place_from 0 q (front ++ rest) [])) (zero-add (length front))
    ∙ ap (λ g. option_and_then (λ p. cond (nat_lt p (length front)) g None) (place_from 0 q (front ++ rest) [])) (sym (index.givers q) ∙ ap (option_map entry_giver) (sym found))
    ∙ ap (option_and_then (λ p. cond (nat_lt p (length front)) (option_map entry_giver e) None)) (sym (index.places q) ∙ ap (option_map (λ x. x.position)) (sym found))
    ∙ by e
  where
    by : (x : Option FirstLabel) → option_and_then (λ p. cond (nat_lt p (length front)) (option_map entry_giver x) None) (option_map (λ y. y.position) x) ≡ option_and_then (λ y. cond (nat_lt y.position (length front)) (Some (entry_giver y)) None) x
    by None = refl
    by (Some y) = refl
