-- Fields and constants on cards: the operands of an operation, and the field of an output card.
use Rattle.std.specs.Prelude.{List, ◌++◌, Bool, true, false, Option, None, Some, if◌then◌else◌}
use Rattle.std.specs.Option.{option_and_then, option_map, option_map_or, option_to_list}
use Rattle.rpg_cards.specs.Calculations.{card_ending}
use Rattle.rpg_sheet_specs.specs.Operations.{card_columns}
use Rattle.rpg_sheet_specs.specs.declared.operations.Column.{Column}
use Rattle.rpg_sheet_specs.specs.declared.operations.Column.TheVariants.{Blank, May, Must}
use Rattle.rpg_sheet_specs.specs.declared.operations.Content.{Content}
use Rattle.rpg_sheet_specs.specs.declared.operations.Content.TheVariants.{Value, Label, Subroutine}
use Rattle.rpg_sheet_specs.specs.declared.operations.OperationColumns.{OperationColumns}
use Rattle.rpg_cards.specs.Cards.{output_field_on}
use Rattle.rpg_cards.specs.Constants.{form_of_factor}
use Rattle.rpg_cards.specs.Names.{form_in, form_of_name}
use Rattle.rpg_cards.specs.declared.spec_card.SpecCard.{SpecCard}
use Rattle.rpg_program.specs.declared.form.FieldForm.{FieldForm}
use Rattle.rpg_sheet_specs.specs.declared.calculation.CalculationSpec.{CalculationSpec}
use Rattle.rpg_sheet_specs.specs.declared.entry.Entry.{Entry}
use Rattle.rpg_sheet_specs.specs.declared.indicator.Three.{Three}
use Rattle.rpg_sheet_specs.specs.declared.literal.Factor.{Factor}
use Rattle.rpg_sheet_specs.specs.declared.literal.Factor.TheVariants as factor
use Rattle.rpg_sheet_specs.specs.declared.output.OutputField.{OutputField}

-- ---- columns for fields

-- a label or a subroutine isn't a field
abbrev pub is_field_content : Content → Bool
is_field_content Label = false
is_field_content Subroutine = false
is_field_content _ = true

-- a content that is a field
abbrev pub if_field : Content → Option Content
if_field c = if is_field_content c then Some c else None

-- what a column takes, if it is for a field
abbrev pub field_content : Column → Option Content
field_content Blank = None
field_content (May c) = if_field c
field_content (Must c) = if_field c

-- ---- operands

-- a named field, and what its column takes
pub record Operand : Type 0 where
  pub content : Content
  pub field : Entry

-- a literal names no field
abbrev pub factor_entry : Factor → Option Entry
factor_entry (factor.Entry e) = Some e
factor_entry (factor.Literal l) = None

-- an entry, as what its column takes
abbrev pub operand_with : Content → Entry → Operand
operand_with c e = record { content = c; field = e }

-- the operand of a column that takes a field
abbrev pub operand_in : Column → Option Entry → Option Operand
operand_in column e = option_and_then (λ c. option_map (operand_with c) e) (field_content column)

-- factor 1, factor 2 and the result field
abbrev pub operands_by : OperationColumns → CalculationSpec → Three (Option Operand)
operands_by t k = record {
  first = operand_in t.factor_1 (option_and_then factor_entry k.factor_1);
  second = operand_in t.factor_2 (option_and_then factor_entry k.factor_2);
  third = operand_in t.result_field k.result_field;
}

-- a card without an operation
abbrev pub no_operands : Three (Option Operand)
no_operands = record { first = None; second = None; third = None }

-- the operands of a calculation, by the columns of its operation
abbrev pub operands_of : CalculationSpec → Three (Option Operand)
operands_of k = option_map_or (λ o. operands_by (card_columns o) k) k.operation no_operands

-- the operands of the last card of a group, which has the operation
abbrev pub operands_ending : SpecCard → List SpecCard → Three (Option Operand)
operands_ending c after = option_map_or operands_of (card_ending c after) no_operands

-- the field of an output card, as an operand
abbrev pub output_operand : OutputField → Option Operand
output_operand f = option_map (operand_with Value) f.operand

-- likewise for a card, if it has an output field
abbrev pub output_operand_on : SpecCard → Option Operand
output_operand_on c = option_and_then output_operand (output_field_on c.spec)

-- the operands that exist, in the order of their columns
abbrev pub operands_listed : Three (Option Operand) → List Operand
operands_listed t = option_to_list t.first ++ option_to_list t.second ++ option_to_list t.third

-- the operands of the operation that ends on the card, and of an output field
abbrev pub operands_on : SpecCard → List SpecCard → List Operand
operands_on c after = operands_listed (operands_ending c after) ++ option_to_list (output_operand_on c)

-- ---- forms

-- the form of an entry's field, if its name has a valid one
abbrev pub card_entry_form : List SpecCard → Entry → Option FieldForm
card_entry_form cards e = form_in (form_of_name e.name cards)

-- the form of the contents of a column for a field
abbrev pub factor_form : List SpecCard → Column → Option Factor → Option FieldForm
factor_form cards column f = option_and_then (λ c. option_and_then (λ x. form_in (form_of_factor x cards)) f) (field_content column)

-- the form of the result field, if its column takes a field
abbrev pub result_form : List SpecCard → Column → Option Entry → Option FieldForm
result_form cards column e = option_and_then (λ c. option_and_then (card_entry_form cards) e) (field_content column)

-- the form of an output field, if its name has a valid one
abbrev pub output_form : List SpecCard → OutputField → Option FieldForm
output_form cards f = option_and_then (card_entry_form cards) f.operand
