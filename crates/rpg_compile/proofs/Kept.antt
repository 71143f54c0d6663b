-- A source without a fault keeps the rules of cards.
use Rattle.std.proofs.Common.{◌≡◌, List, ◌∷◌, ◌++◌, true, subst}
use Rattle.std.proofs.lemmas.Bool.{both_ways, false_from_ne_true, or_left, or_right}
use Rattle.rpg_cards.specs.declared.spec_card.SpecCard.{SpecCard}
use Rattle.rpg_faults.proofs.LeastLemmas.{rule-faultless, source_rule-faultless}
use Rattle.rpg_faults.specs.Faults.{Faultless}
use Rattle.rpg_faults.specs.Rules.{rule, source_rule}
use Rattle.rpg_faults.specs.declared.code.FaultCode.{FaultCode}
use Rattle.rpg_faults.specs.declared.code.FaultCode.TheVariants.{F1, F2, F3, F4, F5, F6, F7, F8, F9, F10, F12, F13, F14, F16, F17, F18}
use Rattle.rpg_faults_flow.specs.Columns as calculations
use Rattle.rpg_faults_flow.specs.Flow.{calls_itself, leaves_its_section, lacks_target}
use Rattle.rpg_faults_flow.specs.Kept.{KeepsRule, Rule}
use Rattle.rpg_faults_flow.specs.Order.{breaks_order}
use Rattle.rpg_faults_limits.specs.Files.{breaks_files, moves_disk}
use Rattle.rpg_faults_operands.specs.Indicators.{bad_indicator}
use Rattle.rpg_faults_limits.specs.Limits.{passes_limit}
use Rattle.rpg_faults_flow.specs.Strays.{is_stray}
use Rattle.rpg_faults_operands.specs.Columns as operands
use Rattle.rpg_faults_operands.specs.Editing.{bad_editing}
use Rattle.rpg_faults_operands.specs.Indexes.{bad_index}
use Rattle.rpg_faults_operands.specs.Kinds.{wrong_operand}
use Rattle.rpg_faults_operands.specs.Names.{lacks_name}
use Rattle.rpg_faults_data.specs.Data.{breaks_data}
use Rattle.rpg_faults_places.specs.Places.{misplaces}
use Rattle.rpg_compile_program.specs.Rules.{KeepsCardRules}

-- where what breaks a rule would be a fault, no card breaks it
kept : (cards : List SpecCard) → Faultless cards → (code : FaultCode) (r : Rule)
    → ((before : List SpecCard) (c : SpecCard) (after : List SpecCard) → cards ≡ before ++ c ∷ after → r before c after ≡ true → rule code before c after ≡ true) → KeepsRule r cards
kept cards none code r leads = λ before c after split.
    false_from_ne_true _ (λ t. both_ways (rule code before c after) (rule-faultless cards none code before c after split) (leads before c after split t))

-- the same of a rule that sees the whole source
of_source : (cards : List SpecCard) → Faultless cards → (code : FaultCode) (r : List SpecCard → Rule)
    → ((before : List SpecCard) (c : SpecCard) (after : List SpecCard) → r (before ++ c ∷ after) before c after ≡ true → rule code before c after ≡ true) → KeepsRule (r cards) cards
of_source cards none code r leads = kept cards none code (r cards) (λ before c after split t. leads before c after (subst (λ cs. r cs before c after ≡ true) split t))

pub keeps_rules : (cards : List SpecCard) → Faultless cards → KeepsCardRules cards
unfolding rule source_rule
keeps_rules cards none = record {
  f1 = of_source cards none F1 (λ cs before c after. lacks_name cs c after) (λ before c after t. t);
  f2 = kept cards none F2 _ (λ before c after split t. t);
  f3 = kept cards none F3 _ (λ before c after split t. t);
  f4 = of_source cards none F4 (λ cs before c after. wrong_operand cs c after) (λ before c after t. t);
  f5 = of_source cards none F5 (λ cs before c after. bad_index cs c after) (λ before c after t. t);
  f6 = of_source cards none F6 passes_limit (λ before c after t. t);
  f7 = of_source cards none F7 (λ cs before c after. breaks_files cs before c) (λ before c after t. t);
  f7_source = source_rule-faultless cards none F7;
  f8 = of_source cards none F8 (λ cs before c after. bad_indicator cs c) (λ before c after t. t);
  f9 = kept cards none F9 calculations.bad_calculation_columns (λ before c after split t. or_left (calculations.bad_calculation_columns before c after) _ t);
  f9_operands = of_source cards none F9 (λ cs before c after. operands.bad_operand_columns cs c after)
      (λ before c after t. or_right (calculations.bad_calculation_columns before c after) _ (or_left (operands.bad_operand_columns (before ++ c ∷ after) c after) _ t));
  f9_lines = of_source cards none F9 (λ cs before c after. moves_disk cs before c)
      (λ before c after t. or_right (calculations.bad_calculation_columns before c after) _ (or_right (operands.bad_operand_columns (before ++ c ∷ after) c after) _ t));
  f10 = of_source cards none F10 lacks_target (λ before c after t. t);
  f12 = kept cards none F12 breaks_order (λ before c after split t. or_left (breaks_order before c after) _ t);
  f12_lines = kept cards none F12 (λ before c after. is_stray before c) (λ before c after split t. or_right (breaks_order before c after) _ t);
  f13 = of_source cards none F13 leaves_its_section (λ before c after t. t);
  f14 = of_source cards none F14 calls_itself (λ before c after t. t);
  f16 = of_source cards none F16 misplaces (λ before c after t. t);
  f17 = of_source cards none F17 (λ cs before c after. bad_editing cs c) (λ before c after t. t);
  f18 = of_source cards none F18 (λ cs before c after. breaks_data cs before c) (λ before c after t. t);
}
