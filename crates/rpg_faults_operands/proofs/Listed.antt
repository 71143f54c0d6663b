-- Operands one by one.
use Rattle.std.proofs.Common.{◌≡◌, List, ◌++◌, Bool, false, ◌||◌, Option, None, Some, refl, ap, ◌∙◌}
use Rattle.std.proofs.Math.Bool.{or-false}
use Rattle.std.proofs.lemmas.List.Folds.{list_any-append}
use Rattle.std.specs.List.{list_any}
use Rattle.std.specs.Option.{option_map_or, option_to_list}
use Rattle.rpg_cards.specs.Calculations.{card_ending}
use Rattle.rpg_cards.specs.declared.spec_card.SpecCard.{SpecCard}
use Rattle.rpg_faults_operands.specs.Operands.{Operand, no_operands, operands_ending, operands_listed, operands_of, operands_on, output_operand_on}
use Rattle.rpg_sheet_specs.specs.declared.calculation.CalculationSpec.{CalculationSpec}
use Rattle.rpg_sheet_specs.specs.declared.indicator.Three.{Three}

module _ (test : Operand → Bool) where
  one : (o : Option Operand) → list_any test (option_to_list o) ≡ option_map_or test o false
  one None = refl
  one (Some x) = or-false (test x)

  three : (a b c : Option Operand) →
      list_any test (option_to_list a ++ option_to_list b ++ option_to_list c) ≡ (option_map_or test a false || option_map_or test b false || option_map_or test c false)
  three a b c =
      rw (list_any-append test (option_to_list a ++ option_to_list b) (option_to_list c))
      (rw (list_any-append test (option_to_list a) (option_to_list b), one a, one b, one c) refl)

-- those of a calculation, and an output field
pub any_besides : (test : Operand → Bool) (t : Three (Option Operand)) (o : Option Operand) →
    list_any test (operands_listed t ++ option_to_list o) ≡ (list_any test (operands_listed t) || option_map_or test o false)
any_besides test t o = list_any-append test (operands_listed t) (option_to_list o) ∙ ap (λ b. list_any test (operands_listed t) || b) (one test o)

pub any_of_three : (test : Operand → Bool) (t : Three (Option Operand)) →
    list_any test (operands_listed t) ≡ (option_map_or test t.first false || option_map_or test t.second false || option_map_or test t.third false)
any_of_three test t = three test t.first t.second t.third

-- one by one
pub any_listed : (test : Operand → Bool) (t : Three (Option Operand)) (o : Option Operand) →
    list_any test (operands_listed t ++ option_to_list o)
    ≡ (option_map_or test t.first false || option_map_or test t.second false || option_map_or test t.third false || option_map_or test o false)
any_listed test t o = any_besides test t o ∙ ap (λ b. b || option_map_or test o false) (any_of_three test t)

-- of the calculation that ends on a card, and of an output field
pub any_on : (test : Operand → Bool) (c : SpecCard) (after : List SpecCard) →
    list_any test (operands_on c after) ≡ (option_map_or (λ (k : CalculationSpec). list_any test (operands_listed (operands_of k))) (card_ending c after) false || option_map_or test (output_operand_on c) false)
any_on test c after = any_besides test (operands_ending c after) (output_operand_on c) ∙ ap (λ b. b || option_map_or test (output_operand_on c) false) (by (card_ending c after))
  where
    by : (o : Option CalculationSpec) → list_any test (operands_listed (option_map_or operands_of o no_operands)) ≡ option_map_or (λ (k : CalculationSpec). list_any test (operands_listed (operands_of k))) o false
    by None = refl
    by (Some k) = refl
