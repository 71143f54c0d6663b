-- F13 and F14: a card has a cause exactly if it breaks the rule, since the rule finds what the card names.
use Rattle.std.proofs.Common.{◌≡◌, ℕ, Bool, true, false, cond, List, [], ◌∷◌, Option, None, Some, refl, sym, ap, ◌∙◌}
use Rattle.std.specs.Option.{is_some, option_and_then, option_map, option_map_or}
use Rattle.rpg_cards.specs.Calculations.{calculation_ending, calculation_of, calculations, calculations_before, card_ending, group_with, open_calculation_group}
use Rattle.rpg_cards.specs.Calls.{call_at, called_subroutine, calls, subroutine_in}
use Rattle.rpg_cards.specs.Statements.{Calculation, statement_of}
use Rattle.rpg_cards.specs.Keys.{Key}
use Rattle.rpg_cards.specs.Labels.{label_named, labels, section_of, target_name}
use Rattle.rpg_cards.specs.declared.labels.Label.{Label}
use Rattle.rpg_cards.specs.declared.labels.Named.{Named}
use Rattle.rpg_cards.specs.declared.labels.Section.{Section}
use Rattle.rpg_cards.specs.declared.spec_card.SpecCard.{SpecCard}
use Rattle.rpg_causes_flow.proofs.LabelLemmas.{is_given_is}
use Rattle.rpg_causes_flow.proofs.Listing.{section_at-is}
use Rattle.rpg_causes_flow.specs.Flow.{IsFlow}
use Rattle.rpg_causes_flow.specs.Index.{leaves_section as leaves_in}
use Rattle.rpg_causes_flow.specs.declared.flow.Flow.{Flow}
use Rattle.rpg_causes_flow.specs.Labels.{card_target, giver, target_by, target_of}
use Rattle.rpg_causes_flow.specs.declared.labels.Giver.{Giver}
use Rattle.rpg_causes_flow.specs.declared.labels.Target.{Target}
use Rattle.rpg_faults_flow.proofs.Ending.{asked}
use Rattle.rpg_faults_flow.proofs.Facts.{last_with}
use Rattle.rpg_faults_flow.specs.Flow.{calls_itself, leads_back, leaves_by, leaves_its_section, leaves_section}
use Rattle.rpg_sheet_specs.specs.declared.calculation.CalculationSpec.{CalculationSpec}

mapped_some : {X Y : Type 0} (f : X → Y) (o : Option X) → is_some (option_map f o) ≡ is_some o
mapped_some f None = refl
mapped_some f (Some x) = refl

module _ (cards before : List SpecCard) (c : SpecCard) (after : List SpecCard) where
  abbrev given : List Label
  given = labels (calculations cards)

  abbrev front : List (Calculation Key)
  front = calculations_before before (c ∷ after)

  abbrev all : List (ℕ × ℕ)
  all = calls (calculations cards)

  -- a call of that subroutine by that caller
  abbrev called : Option ℕ → Option Named → Option (ℕ × ℕ)
  called caller w = option_and_then (λ m. option_map (λ n. (m, n)) (option_and_then (called_subroutine given) w)) caller

  -- the section of the calculation that a card ends
  abbrev section : CalculationSpec → Section
  section k = section_of front (calculation_of (group_with (open_calculation_group before) k))

  -- a name that is defined, with the card that defines it
  given_is : (n : Named) → is_some (label_named n.name given) ≡ true → is_some (target_by cards n) ≡ true
  given_is n e = mapped_some {X = Giver} {Y = Target} (λ (g : Giver). record { name = n.name; card = g.card }) (giver n.name cards []) ∙ is_given_is n.name cards [] ∙ e

  -- ---- F13

  abbrev leaves : CalculationSpec → Bool
  leaves k = option_map_or (λ (n : Named). option_map_or (leaves_by (section k) n) (label_named n.name given) false) (target_name (statement_of k)) false

  -- the rule, tested on the card that the calculation ends on
  leaves_by_card : leaves_its_section cards before c after ≡ option_map_or leaves (card_ending c after) false
  leaves_by_card =
      asked before c after (leaves_section given front) leaves
      (λ k. ap (λ d. option_map_or (λ (n : Named). option_map_or (leaves_by (section k) n) (label_named n.name given) false) (target_name (statement_of d)) false) (last_with (open_calculation_group before) k))

  -- a label that is left for is given
  is_left_for : (own : Section) (n : Named) (l : Option Label) → option_map_or (leaves_by own n) l false ≡ true → is_some l ≡ true
  is_left_for own n None e = absurd cc
  is_left_for own n (Some l) e = refl

  left_target : (own : Section) (w : Option Named) → option_map_or (λ (n : Named). option_map_or (leaves_by own n) (label_named n.name given) false) w false ≡ true
      → is_some (option_and_then (target_by cards) w) ≡ true
  left_target own None e = absurd cc
  left_target own (Some n) e = given_is n (is_left_for own n (label_named n.name given) e)

  names_label : (x : Option CalculationSpec) → option_map_or leaves x false ≡ true → is_some (option_and_then (target_of cards) x) ≡ true
  names_label None e = absurd cc
  names_label (Some k) e = left_target (section k) (target_name (statement_of k)) e

  -- ---- F14

  abbrev own : CalculationSpec → Bool
  own k = leads_back all (called (subroutine_in (section k)) (target_name (statement_of k)))

  by_ending : (g : Option (Calculation Key)) → leads_back all (option_and_then (call_at given front) g) ≡ option_map_or (λ g. leads_back all (call_at given front g)) g false
  by_ending None = refl
  by_ending (Some g) = refl

  by_card : calls_itself cards before c after ≡ option_map_or own (card_ending c after) false
  by_card =
      by_ending (calculation_ending before c after)
      ∙ asked before c after (λ g. leads_back all (call_at given front g)) own
      (λ k. ap (λ d. leads_back all (called (subroutine_in (section k)) (target_name (statement_of d)))) (last_with (open_calculation_group before) k))

  -- what is called is given
  is_label : (m : ℕ) (b : Bool) (l : Option Label)
      → leads_back all (option_map (λ n. (m, n)) (cond b (option_and_then (λ (x : Label). cond x.named.is_subroutine (subroutine_in x.section) None) l) None)) ≡ true → is_some l ≡ true
  is_label m false l e = absurd cc
  is_label m true None e = absurd cc
  is_label m true (Some l) e = refl

  is_target : (caller : Option ℕ) (w : Option Named) → leads_back all (called caller w) ≡ true → is_some (option_and_then (target_by cards) w) ≡ true
  is_target None w e = absurd cc
  is_target (Some m) None e = absurd cc
  is_target (Some m) (Some n) e = given_is n (is_label m n.is_subroutine (label_named n.name given) e)

  names_one : (x : Option CalculationSpec) → option_map_or own x false ≡ true → is_some (option_and_then (target_of cards) x) ≡ true
  names_one None e = absurd cc
  names_one (Some k) e = is_target (subroutine_in (section k)) (target_name (statement_of k)) e

  -- ---- what breaks a rule names a target

  pub leaves_for_one : leaves_its_section cards before c after ≡ true → is_some (card_target cards c after) ≡ true
  leaves_for_one e = names_label (card_ending c after) (sym leaves_by_card ∙ e)

  pub calls_one : calls_itself cards before c after ≡ true → is_some (card_target cards c after) ≡ true
  calls_one e = names_one (card_ending c after) (sym by_card ∙ e)

  -- ---- by the flow

  pub leaves_is : (f : Flow) → IsFlow before (c ∷ after) f → leaves_its_section cards before c after ≡ option_map_or (leaves_in cards f) (card_ending c after) false
  leaves_is f is = leaves_by_card ∙ by (card_ending c after)
    where
      by : (x : Option CalculationSpec) → option_map_or leaves x false ≡ option_map_or (leaves_in cards f) x false
      by None = refl
      by (Some k) = ap (λ s. option_map_or (λ (n : Named). option_map_or (leaves_by s n) (label_named n.name given) false) (target_name (statement_of k)) false) (section_at-is before c after f is k)
