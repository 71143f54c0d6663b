-- Rules of calculations, tested on their last cards.
use Rattle.std.proofs.Common.{◌≡◌, Bool, true, false, cond, List, [], ◌∷◌, ◌++◌, Option, Some, None, refl, ap, ◌∙◌}
use Rattle.std.specs.Option.{option_map, option_map_or, option_to_list}
use Rattle.rpg_cards.specs.Calculations.{CalculationGroup, calculation_ending, calculation_of, calculations_before, card_ending, continues, group_at, group_with, open_calculation_group}
use Rattle.rpg_cards.specs.Cards.{calculation_on}
use Rattle.rpg_cards.specs.Statements.{Calculation}
use Rattle.rpg_cards.specs.Keys.{Key}
use Rattle.rpg_cards.specs.declared.spec_card.SpecCard.{SpecCard}
use Rattle.rpg_faults_flow.proofs.Walk.{calculations_from-push}
use Rattle.rpg_sheet_specs.specs.declared.calculation.CalculationSpec.{CalculationSpec}

pub group_at-is : (o : Option CalculationGroup) (c : SpecCard) (after : List SpecCard) → group_at o c after ≡ option_map (group_with o) (card_ending c after)
group_at-is o c after = by (continues after)
  where
    by : (b : Bool) → cond b None (option_map (group_with o) (calculation_on c.spec)) ≡ option_map (group_with o) (cond b None (calculation_on c.spec))
    by true = refl
    by false = refl

pub ending-is : (before : List SpecCard) (c : SpecCard) (after : List SpecCard) → calculation_ending before c after ≡ option_map (λ k. calculation_of (group_with (open_calculation_group before) k)) (card_ending c after)
ending-is before c after = ap (option_map calculation_of) (group_at-is (open_calculation_group before) c after) ∙ by (card_ending c after)
  where
    by : (x : Option CalculationSpec) → option_map calculation_of (option_map (group_with (open_calculation_group before)) x) ≡ option_map (λ k. calculation_of (group_with (open_calculation_group before) k)) x
    by None = refl
    by (Some k) = refl

pub asked : (before : List SpecCard) (c : SpecCard) (after : List SpecCard) (test : Calculation Key → Bool) (own : CalculationSpec → Bool) → ((k : CalculationSpec) → test (calculation_of (group_with (open_calculation_group before) k)) ≡ own k)
    → option_map_or test (calculation_ending before c after) false ≡ option_map_or own (card_ending c after) false
asked before c after test own same = ap (λ x. option_map_or test x false) (ending-is before c after) ∙ by (card_ending c after)
  where
    by : (x : Option CalculationSpec) → option_map_or test (option_map (λ k. calculation_of (group_with (open_calculation_group before) k)) x) false ≡ option_map_or own x false
    by None = refl
    by (Some k) = same k

-- the calculations before the next card
pub pushed : (before : List SpecCard) (c : SpecCard) (after : List SpecCard)
    → calculations_before (before ++ c ∷ []) after ≡ calculations_before before (c ∷ after) ++ option_to_list (option_map calculation_of (group_at (open_calculation_group before) c after))
pushed before c after = calculations_from-push None before c after
