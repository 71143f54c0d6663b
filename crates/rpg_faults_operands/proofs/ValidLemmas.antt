-- What makes operands valid.
use Rattle.std.proofs.Common.{◌≡◌, Bool, true, false, ◌||◌, List, Option, None, Some, refl, sym, ap, ◌∙◌}
use Rattle.std.specs.List.{list_any}
use Rattle.std.specs.Option.{option_and_then, option_map_or}
use Rattle.std.specs.Prelude.{not, IfSome}
use Rattle.rpg_cards.specs.Calculations.{card_ending}
use Rattle.rpg_cards.specs.Cards.{output_field_on}
use Rattle.rpg_sheet_specs.specs.Operations.{card_columns}
use Rattle.rpg_sheet_specs.specs.declared.operations.OperationColumns.{OperationColumns}
use Rattle.rpg_cards.specs.declared.spec_card.SpecCard.{SpecCard}
use Rattle.rpg_program.specs.declared.form.FieldForm.{FieldForm}
use Rattle.rpg_faults_operands.proofs.Listed.{any_of_three, any_on}
use Rattle.rpg_faults_operands.specs.Valid.{HasValidOperands, IsValidCalculation, IsValidForm, IsValidOperand}
use Rattle.rpg_faults_operands.specs.Indexes.{bad_index_of}
use Rattle.rpg_faults_operands.specs.Kinds.{wrong_by, wrong_forms, wrong_in_calculation, wrong_in_output}
use Rattle.rpg_faults_operands.specs.Names.{names_nothing}
use Rattle.rpg_faults_operands.specs.Operands.{factor_entry, factor_form, no_operands, operand_in, operands_by, operands_listed, operands_of, output_operand_on, result_form}
use Rattle.rpg_sheet_specs.specs.declared.calculation.CalculationSpec.{CalculationSpec}
use Rattle.rpg_sheet_specs.specs.declared.calculation.Operation.{Operation}

neither : (a b : Bool) → a ≡ false → b ≡ false → (a || b) ≡ false
neither a b no_a no_b = rw (no_a, no_b) refl

none_of_three : (a b c : Bool) → a ≡ false → b ≡ false → c ≡ false → (a || b || c) ≡ false
none_of_three a b c no_a no_b no_c = rw (no_a, no_b, no_c) refl

pub not_true : (b : Bool) → not b ≡ true → b ≡ false
not_true false e = refl
not_true true e = absurd cc

-- ---- an operand

-- ---- in columns

-- ---- all operands

pub with_operation : (cards : List SpecCard) (k : CalculationSpec) (operation : Operation) (t : OperationColumns) (f g r : Option FieldForm) → k.operation ≡ Some operation → t ≡ card_columns operation
    → IsValidForm cards (operand_in t.factor_1 (option_and_then factor_entry k.factor_1)) (factor_form cards t.factor_1 k.factor_1) f
    → IsValidForm cards (operand_in t.factor_2 (option_and_then factor_entry k.factor_2)) (factor_form cards t.factor_2 k.factor_2) g
    → IsValidForm cards (operand_in t.result_field k.result_field) (result_form cards t.result_field k.result_field) r
    → wrong_forms t f g r ≡ false → IsValidCalculation cards k
with_operation cards k operation t f g r is columns first second third right = record {
  names = ap (λ (o : Option Operation). list_any (names_nothing cards) (operands_listed (option_map_or (λ p. operands_by (card_columns p) k) o no_operands))) is
      ∙ ap (λ (u : OperationColumns). list_any (names_nothing cards) (operands_listed (operands_by u k))) (sym columns) ∙ any_of_three (names_nothing cards) (operands_by t k)
      ∙ none_of_three _ _ _ first.operand.name second.operand.name third.operand.name;
  kinds = ap (λ (o : Option Operation). option_map_or (λ p. wrong_by cards k (card_columns p)) o false) is ∙ ap (wrong_by cards k) (sym columns)
      ∙ ap (λ x. wrong_forms t x (factor_form cards t.factor_2 k.factor_2) (result_form cards t.result_field k.result_field)) (sym first.form)
      ∙ ap (λ x. wrong_forms t f x (result_form cards t.result_field k.result_field)) (sym second.form) ∙ ap (wrong_forms t f g) (sym third.form) ∙ right;
  indexes = ap (λ (o : Option Operation). list_any (bad_index_of cards) (operands_listed (option_map_or (λ p. operands_by (card_columns p) k) o no_operands))) is
      ∙ ap (λ (u : OperationColumns). list_any (bad_index_of cards) (operands_listed (operands_by u k))) (sym columns) ∙ any_of_three (bad_index_of cards) (operands_by t k)
      ∙ none_of_three _ _ _ first.operand.index second.operand.index third.operand.index;
}

pub on_card : (cards : List SpecCard) (c : SpecCard) (after : List SpecCard) → IfSome (card_ending c after) (IsValidCalculation cards) → IsValidOperand cards (output_operand_on c)
    → option_map_or (wrong_in_output cards) (output_field_on c.spec) false ≡ false → HasValidOperands cards c after
on_card cards c after ending output kind = record {
  names = any_on (names_nothing cards) c after ∙ neither _ _ (names (card_ending c after) ending) output.name;
  kinds = neither _ _ (kinds (card_ending c after) ending) kind;
  indexes = any_on (bad_index_of cards) c after ∙ neither _ _ (indexes (card_ending c after) ending) output.index;
}
  where
    names : (o : Option CalculationSpec) → IfSome o (IsValidCalculation cards) → option_map_or (λ (k : CalculationSpec). list_any (names_nothing cards) (operands_listed (operands_of k))) o false ≡ false
    names None g = refl
    names (Some k) g = g.names

    kinds : (o : Option CalculationSpec) → IfSome o (IsValidCalculation cards) → option_map_or (wrong_in_calculation cards) o false ≡ false
    kinds None g = refl
    kinds (Some k) g = g.kinds

    indexes : (o : Option CalculationSpec) → IfSome o (IsValidCalculation cards) → option_map_or (λ (k : CalculationSpec). list_any (bad_index_of cards) (operands_listed (operands_of k))) o false ≡ false
    indexes None g = refl
    indexes (Some k) g = g.indexes
