-- Operands that certainly break neither F1, F4 nor F5.
use Rattle.std.specs.Prelude.{◌≡◌, List, false, Option}
use Rattle.std.specs.List.{list_any}
use Rattle.std.specs.Option.{option_and_then, option_map_or}
use Rattle.rpg_cards.specs.declared.spec_card.SpecCard.{SpecCard}
use Rattle.rpg_program.specs.declared.form.FieldForm.{FieldForm}
use Rattle.rpg_faults_operands.specs.Indexes.{bad_index, bad_index_of}
use Rattle.rpg_faults_operands.specs.Kinds.{wrong_in_calculation, wrong_operand}
use Rattle.rpg_faults_operands.specs.Names.{lacks_name, names_nothing}
use Rattle.rpg_faults_operands.specs.Operands.{Operand, factor_entry, factor_form, operand_in, operands_listed, operands_of, result_form}
use Rattle.rpg_sheet_specs.specs.declared.calculation.CalculationSpec.{CalculationSpec}
use Rattle.rpg_sheet_specs.specs.declared.entry.Entry.{Entry}
use Rattle.rpg_sheet_specs.specs.declared.literal.Factor.{Factor}
use Rattle.rpg_sheet_specs.specs.declared.operations.Column.{Column}

-- an operand, if there is one, is defined and validly indexed
pub record IsValidOperand (cards : List SpecCard) (o : Option Operand) : Type 0 where
  pub name : option_map_or (names_nothing cards) o false ≡ false
  pub index : option_map_or (bad_index_of cards) o false ≡ false

-- an operand is valid, and its form is known
pub record IsValidForm (cards : List SpecCard) (o : Option Operand) (known found : Option FieldForm) : Type 0 where
  pub operand : IsValidOperand cards o
  pub form : found ≡ known

-- the factor in such a column is valid, and this is its form
abbrev pub IsValidFactor : List SpecCard → Column → Option Factor → Option FieldForm → Type 0
IsValidFactor cards column f found = IsValidForm cards (operand_in column (option_and_then factor_entry f)) (factor_form cards column f) found

-- the result field is valid, and this is its form
abbrev pub IsValidResult : List SpecCard → Column → Option Entry → Option FieldForm → Type 0
IsValidResult cards column e found = IsValidForm cards (operand_in column e) (result_form cards column e) found

-- all operands of a calculation are valid
pub record IsValidCalculation (cards : List SpecCard) (k : CalculationSpec) : Type 0 where
  pub names : list_any (names_nothing cards) (operands_listed (operands_of k)) ≡ false
  pub kinds : wrong_in_calculation cards k ≡ false
  pub indexes : list_any (bad_index_of cards) (operands_listed (operands_of k)) ≡ false

-- all operands of a card are valid
pub record HasValidOperands (cards : List SpecCard) (c : SpecCard) (after : List SpecCard) : Type 0 where
  pub names : lacks_name cards c after ≡ false
  pub kinds : wrong_operand cards c after ≡ false
  pub indexes : bad_index cards c after ≡ false
