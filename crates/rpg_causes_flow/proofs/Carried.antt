-- The group of a card, and its BEGSR or ENDSR, by columns 7 and 8 of the group's first card.
use Rattle.std.proofs.Common.{◌≡◌, Bool, true, false, not, cond, ◌&&◌, ◌||◌, List, [], ◌∷◌, ◌++◌, Option, Some, None, refl, ap, ◌∙◌, append-nil}
use Rattle.std.specs.Option.{option_and_then, option_map, option_map_or, option_to_list}
use Rattle.rpg_cards.specs.Calculations.{CalculationGroup, alone, calculation_of, calculations, calculations_from, card_ending, group_at, group_with, joined_group, last_card, open_calculation_group, open_with}
use Rattle.rpg_cards.specs.Cards.{calculation_on}
use Rattle.rpg_cards.specs.Statements.{Calculation, statement_of}
use Rattle.rpg_cards.specs.Groups.{joins}
use Rattle.rpg_cards.specs.Keys.{Key}
use Rattle.rpg_cards.specs.Labels.{begins_subroutine, brackets, ends, is_begsr, is_endsr, labels, target_name}
use Rattle.rpg_cards.specs.Sections.{is_subroutine}
use Rattle.rpg_cards.specs.declared.spec_card.SpecCard.{SpecCard}
use Rattle.rpg_faults_flow.proofs.Ending.{asked, group_at-is}
use Rattle.rpg_faults_flow.proofs.Facts.{last_with}
use Rattle.rpg_causes_flow.specs.ByCard.{bracket_at, bracket_in, bracket_of, calculation_lacks_label, calculation_level, level_of_group, level_with}
use Rattle.rpg_faults_flow.specs.Flow.{lacks_target, is_given_as, lacks_label}
use Rattle.rpg_faults_flow.specs.Order.{is_bracket, is_closed}
use Rattle.rpg_sheet_specs.specs.declared.calculation.CalculationSpec.{CalculationSpec}

-- ---- the group of a card

pub level_in-is : (o : Option CalculationGroup) (k : CalculationSpec) → (group_with o k).first.control_level ≡ calculation_level (level_of_group o) k
level_in-is None k = refl
level_in-is (Some g) k = by (joins k.control_level)
  where
    by : (b : Bool) → (cond b (joined_group g k) (alone k)).first.control_level ≡ cond b g.first.control_level k.control_level
    by true = refl
    by false = refl

pub level_with-is : (o : Option CalculationGroup) (c : SpecCard) → level_of_group (open_with o c.spec) ≡ level_with (level_of_group o) c
level_with-is o c = by (calculation_on c.spec)
  where
    by : (x : Option CalculationSpec) → level_of_group (option_map (group_with o) x) ≡ option_map (calculation_level (level_of_group o)) x
    by None = refl
    by (Some k) = ap Some (level_in-is o k)

-- ---- brackets

bracket_cases : (s b e : Bool) → cond ((s && b) || (s && e)) (Some (s && e)) None ≡ cond (s && (b || e)) (Some e) None
bracket_cases false b e = refl
bracket_cases true b e = refl

pub bracket_in-is : (o : Option CalculationGroup) (k : CalculationSpec) → bracket_of (calculation_of (group_with o k)) ≡ bracket_in (calculation_level (level_of_group o) k) k
bracket_in-is o k =
    bracket_cases (is_subroutine (group_with o k).first.control_level) (is_begsr (statement_of (last_card (group_with o k)))) (is_endsr (statement_of (last_card (group_with o k))))
    ∙ ap (λ d. cond (is_subroutine (group_with o k).first.control_level && is_bracket d) (Some (is_endsr d)) None) (ap statement_of (last_with o k))
    ∙ ap (λ l. bracket_in l k) (level_in-is o k)

pub bracket_at-is : (o : Option CalculationGroup) (c : SpecCard) (after : List SpecCard)
    → option_and_then bracket_of (option_map calculation_of (group_at o c after)) ≡ bracket_at (level_of_group o) c after
bracket_at-is o c after = ap (λ x. option_and_then bracket_of (option_map calculation_of x)) (group_at-is o c after) ∙ by (card_ending c after)
  where
    by : (x : Option CalculationSpec) → option_and_then bracket_of (option_map calculation_of (option_map (group_with o) x)) ≡ option_and_then (λ k. bracket_in (calculation_level (level_of_group o) k) k) x
    by None = refl
    by (Some k) = bracket_in-is o k

-- ---- the next bracket

abbrev pub closed_by : Option Bool → Bool → Bool
closed_by o rest = option_map_or (λ b. b) o rest

closed_with : (gs : List (Calculation Key)) (x : Option (Calculation Key)) → is_closed (brackets (option_to_list x ++ gs)) ≡ closed_by (option_and_then bracket_of x) (is_closed (brackets gs))
closed_with gs None = refl
closed_with gs (Some g) = by (begins_subroutine g || ends g)
  where
    by : (b : Bool) → is_closed (cond b (g ∷ brackets gs) (brackets gs)) ≡ closed_by (cond b (Some (ends g)) None) (is_closed (brackets gs))
    by true = refl
    by false = refl

pub closed_step : (o : Option CalculationGroup) (c : SpecCard) (following : List SpecCard)
    → is_closed (brackets (calculations_from o (c ∷ following) [])) ≡ closed_by (bracket_at (level_of_group o) c following) (is_closed (brackets (calculations_from (open_with o c.spec) following [])))
closed_step o c following =
    ap (λ (cs : List SpecCard). is_closed (brackets (option_to_list (option_map calculation_of (group_at o c cs)) ++ calculations_from (open_with o c.spec) following []))) (append-nil following)
    ∙ closed_with (calculations_from (open_with o c.spec) following []) (option_map calculation_of (group_at o c following))
    ∙ ap (λ b. closed_by b (is_closed (brackets (calculations_from (open_with o c.spec) following [])))) (bracket_at-is o c following)

-- ---- F10

pub nowhere-is : (cards before : List SpecCard) (c : SpecCard) (after : List SpecCard) → lacks_target cards before c after ≡ option_map_or (calculation_lacks_label cards) (card_ending c after) false
nowhere-is cards before c after =
    asked before c after (lacks_label (labels (calculations cards))) (calculation_lacks_label cards)
    (λ k. ap (λ d. option_map_or (λ n. not (is_given_as (labels (calculations cards)) n)) (target_name (statement_of d)) false) (last_with (open_calculation_group before) k))
