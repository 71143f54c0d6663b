-- The first label of a name is defined by the first card that defines the name.
use Rattle.std.proofs.Common.{◌≡◌, Bool, true, false, not, cond, ◌||◌, List, [], ◌∷◌, ◌++◌, Option, None, Some, refl, sym, ap, ◌∙◌}
use Rattle.std.specs.Cmp.Lexicographic.{pointwise}
use Rattle.std.specs.List.{list_any}
use Rattle.std.specs.Option.{option_and_then, option_map, option_map_or, option_or, option_to_list}
use Rattle.std.specs.Prelude.{is_some, nat_eq}
use Rattle.std.proofs.lemmas.List.Folds.{list_any-append}
use Rattle.rpg_cards.specs.Calculations.{CalculationGroup, calculation_ending, calculation_of, calculations, calculations_before, calculations_from, card_ending, group_with, open_calculation_group, open_with}
use Rattle.rpg_cards.specs.Statements.{Calculation, statement_of}
use Rattle.rpg_cards.specs.Keys.{Key, Name}
use Rattle.rpg_cards.specs.Labels.{defined_name, label_named, labels, labels_after, section_of, target_name}
use Rattle.rpg_cards.specs.Names.{definitions, definitions_on, given_names, is_of}
use Rattle.rpg_cards.specs.declared.labels.Label.{Label}
use Rattle.rpg_cards.specs.declared.labels.Named.{Named}
use Rattle.rpg_cards.specs.declared.spec_card.SpecCard.{SpecCard}
use Rattle.rpg_causes_flow.proofs.Carried.{nowhere-is}
use Rattle.rpg_causes_flow.specs.Labels.{name_given_on, giver, giver_if, if_names_field, nowhere_cause, of_target, of_wanted, unless_alike}
use Rattle.rpg_causes_operands.specs.Names.{defines, first_defining}
use Rattle.rpg_causes_flow.specs.declared.labels.Giver.{Giver}
use Rattle.rpg_causes_flow.specs.declared.labels.NowhereCause.TheVariants.{Absent, Other}
use Rattle.rpg_causes_flow.specs.declared.labels.TwiceCause.TheVariants.{EveryProgram, Field}
use Rattle.rpg_faults_flow.proofs.Ending.{asked, group_at-is}
use Rattle.rpg_faults_flow.proofs.Facts.{last_with}
use Rattle.rpg_causes_flow.specs.ByCard.{calculation_lacks_label}
use Rattle.rpg_faults_flow.specs.Flow.{alike, defines_again, lacks_target, is_defined, is_given_as}
use Rattle.rpg_sheet_specs.specs.declared.calculation.CalculationSpec.{CalculationSpec}

abbrev of_label : Option Label → Option Bool
of_label l = option_map (λ (x : Label). x.named.is_subroutine) l

abbrev of_giver : Option Giver → Option Bool
of_giver g = option_map (λ (x : Giver). x.is_subroutine) g

module _ (name : Name) where
  -- one more card, whose operation that is, if it ends a group
  step : (acc : List (Calculation Key)) (o : Option CalculationGroup) (c : SpecCard) (cs after : List SpecCard) (rest : List (Calculation Key))
      → ((a : List (Calculation Key)) → of_label (label_named name (labels_after a rest)) ≡ of_giver (giver name cs after)) → (x : Option CalculationSpec)
      → of_label (label_named name (labels_after acc (option_to_list (option_map calculation_of (option_map (group_with o) x)) ++ rest)))
      ≡ of_giver (option_or (option_and_then (giver_if name c.number) (option_and_then (λ k. defined_name (statement_of k)) x)) (giver name cs after))
  step acc o c cs after rest known None = known acc
  step acc o c cs after rest known (Some k) =
      ap (λ d. of_label (label_named name (option_to_list (option_map label (defined_name (statement_of d))) ++ more))) (last_with o k)
      ∙ named (defined_name (statement_of k))
    where
      label : Named → Label
      label n = record { named = n; section = section_of acc (calculation_of (group_with o k)) }

      more : List Label
      more = labels_after (acc ++ calculation_of (group_with o k) ∷ []) rest

      test : (n : Named) (b : Bool)
          → of_label (cond b (Some (label n)) (label_named name more))
          ≡ of_giver (option_or (cond b (Some (record { card = c.number; is_subroutine = n.is_subroutine })) None) (giver name cs after))
      test n true = refl
      test n false = known (acc ++ calculation_of (group_with o k) ∷ [])

      named : (x : Option Named)
          → of_label (label_named name (option_to_list (option_map label x) ++ more))
          ≡ of_giver (option_or (option_and_then (giver_if name c.number) x) (giver name cs after))
      named None = known (acc ++ calculation_of (group_with o k) ∷ [])
      named (Some n) = test n (pointwise nat_eq name n.name)

  from : (acc : List (Calculation Key)) (o : Option CalculationGroup) (before after : List SpecCard)
      → of_label (label_named name (labels_after acc (calculations_from o before after))) ≡ of_giver (giver name before after)
  from acc o [] after = refl
  from acc o (c ∷ cs) after =
      ap (λ x. of_label (label_named name (labels_after acc (option_to_list (option_map calculation_of x) ++ calculations_from (open_with o c.spec) cs after)))) (group_at-is o c (cs ++ after))
      ∙ step acc o c cs after (calculations_from (open_with o c.spec) cs after) (λ a. from a (open_with o c.spec) cs after) (card_ending c (cs ++ after))

-- the first label of a name, and the first card that defines it
pub giver_is : (name : Name) (before after : List SpecCard) → of_label (label_named name (labels (calculations_before before after))) ≡ of_giver (giver name before after)
giver_is name before after = from name [] None before after

some_map : {X Y : Type 0} (f : X → Y) (o : Option X) → is_some (option_map f o) ≡ is_some o
some_map f None = refl
some_map f (Some x) = refl

-- a name is defined where a card defines it
pub is_given_is : (name : Name) (before after : List SpecCard) → is_some (giver name before after) ≡ is_some (label_named name (labels (calculations_before before after)))
is_given_is name before after =
    sym (some_map (λ (x : Giver). x.is_subroutine) (giver name before after))
    ∙ ap is_some (sym (giver_is name before after))
    ∙ some_map (λ (x : Label). x.named.is_subroutine) (label_named name (labels (calculations_before before after)))

unless_is : {X : Type 0} (x : X) (b : Bool) → is_some (cond b None (Some x)) ≡ not b
unless_is x true = refl
unless_is x false = refl

-- a name that is referred to isn't defined where no card defines it so
pub wanted_is : (n : Named) (l : Option Label) (g : Option Giver) → of_label l ≡ of_giver g
    → is_some (option_map_or (unless_alike n) g (Some (Absent n))) ≡ not (option_map_or (λ (x : Label). alike x.named.is_subroutine n.is_subroutine) l false)
wanted_is n None None e = refl
wanted_is n None (Some g) e = absurd cc
wanted_is n (Some l) None e = absurd cc
wanted_is n (Some l) (Some g) e = unless_is (Other n.name g) (alike g.is_subroutine n.is_subroutine) ∙ ap (λ b. not (alike b n.is_subroutine)) (sym same)
  where
    same : l.named.is_subroutine ≡ g.is_subroutine
    same = ap (λ (o : Option Bool). option_map_or (λ b. b) o false) e

-- ---- F10

wanted_rule : (cards : List SpecCard) (n : Named) → is_some (of_wanted cards n) ≡ not (is_given_as (labels (calculations cards)) n)
wanted_rule cards n = wanted_is n (label_named n.name (labels (calculations cards))) (giver n.name cards []) (giver_is n.name cards [])

-- there is a cause where the rule is broken
pub nowhere_rule : (cards before : List SpecCard) (c : SpecCard) (after : List SpecCard) → is_some (nowhere_cause cards c after) ≡ lacks_target cards before c after
nowhere_rule cards before c after = by (card_ending c after) ∙ sym (nowhere-is cards before c after)
  where
    target : (w : Option Named) → is_some (option_and_then (of_wanted cards) w) ≡ option_map_or (λ n. not (is_given_as (labels (calculations cards)) n)) w false
    target None = refl
    target (Some n) = wanted_rule cards n

    by : (x : Option CalculationSpec) → is_some (option_and_then (of_target cards) x) ≡ option_map_or (calculation_lacks_label cards) x false
    by None = refl
    by (Some k) = target (target_name (statement_of k))

-- ---- F11

-- a name that is given again
abbrev pub is_again : List SpecCard → SpecCard → List SpecCard → Named → Bool
is_again before c after n = is_some (label_named n.name (labels (calculations_before before (c ∷ after)))) || is_defined n.name (definitions (before ++ c ∷ []))

-- the calculation that ends on a card defines the name that the card defines
pub again_is : (before : List SpecCard) (c : SpecCard) (after : List SpecCard) → option_map_or (defines_again before c after) (calculation_ending before c after) false ≡ option_map_or (is_again before c after) (name_given_on c after) false
again_is before c after =
    asked before c after (defines_again before c after) (λ k. option_map_or (is_again before c after) (defined_name (statement_of k)) false)
    (λ k. ap (λ d. option_map_or (is_again before c after) (defined_name (statement_of d)) false) (last_with (open_calculation_group before) k))
    ∙ by (card_ending c after)
  where
    by : (x : Option CalculationSpec) → option_map_or (λ k. option_map_or (is_again before c after) (defined_name (statement_of k)) false) x false ≡ option_map_or (is_again before c after) (option_and_then (λ k. defined_name (statement_of k)) x) false
    by None = refl
    by (Some k) = refl

-- ---- the card that defines a name

pub first_defining_is : (name : Name) (cards : List SpecCard) → is_some (first_defining name cards) ≡ list_any (is_of name) (definitions cards)
first_defining_is name [] = refl
first_defining_is name (c ∷ cs) = by (defines name c) ∙ ap (λ b. defines name c || b) (first_defining_is name cs) ∙ sym (list_any-append (is_of name) (definitions_on c.spec) (definitions cs))
  where
    by : (b : Bool) → is_some (cond b (Some c.number) (first_defining name cs)) ≡ (b || is_some (first_defining name cs))
    by true = refl
    by false = refl

-- a name is a field's where one of the definitions has it
pub field_rule : (name : Name) (cards : List SpecCard) → is_some (if_names_field cards name) ≡ is_defined name (definitions cards)
field_rule name cards = by (list_any (is_of name) given_names)
  where
    by : (b : Bool) → is_some (cond b (Some (EveryProgram name)) (option_map (Field name) (first_defining name cards))) ≡ (b || list_any (is_of name) (definitions cards))
    by true = refl
    by false = some_map (Field name) (first_defining name cards) ∙ first_defining_is name cards
