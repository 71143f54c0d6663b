-- F9: a search for high or low without sequence, and output fields whose columns don't go together.
use Rattle.std.specs.Prelude.{List, Bool, true, false, not, ◌&&◌, ◌||◌, is_some, is_none}
use Rattle.std.specs.Option.{option_map_or}
use Rattle.rpg_cards.specs.Calculations.{card_ending}
use Rattle.rpg_sheet_specs.specs.Operations.{card_columns}
use Rattle.rpg_sheet_specs.specs.declared.operations.OperationColumns.{OperationColumns}
use Rattle.rpg_sheet_specs.specs.declared.operations.Shown.{Shown}
use Rattle.rpg_sheet_specs.specs.declared.operations.Shown.TheVariants as shown
use Rattle.rpg_cards.specs.Cards.{output_field_on}
use Rattle.rpg_cards.specs.declared.spec_card.SpecCard.{SpecCard}
use Rattle.rpg_program.specs.Forms.{is_array, is_table}
use Rattle.rpg_program.specs.declared.form.FieldForm.{FieldForm}
use Rattle.rpg_sheet_specs.specs.declared.calculation.CalculationSpec.{CalculationSpec}
use Rattle.rpg_sheet_specs.specs.declared.output.OutputField.{OutputField}
use Rattle.rpg_faults_operands.specs.Operands.{factor_form}

-- the indicators of LOKUP
abbrev pub searches : Shown → Bool
searches shown.Search = true
searches _ = false

-- an array or a table that isn't in ascending sequence
abbrev pub lacks_sequence : FieldForm → Bool
lacks_sequence form = (is_array form.class || is_table form.class) && not form.is_ascending

-- a search for high or low through entries that aren't in ascending sequence
abbrev pub is_unordered : List SpecCard → CalculationSpec → OperationColumns → Bool
is_unordered cards k t =
    searches t.indicators && (is_some k.resulting_indicators.first || is_some k.resulting_indicators.second)
    && option_map_or lacks_sequence (factor_form cards t.factor_2 k.factor_2) false

-- F9 of a calculation: LOKUP for high or low through entries that aren't in ascending sequence
abbrev pub bad_search : List SpecCard → CalculationSpec → Bool
bad_search cards k = option_map_or (λ o. is_unordered cards k (card_columns o)) k.operation false

-- an output card without a field has no constant, or has a code or blank-after
abbrev pub bad_output_field : OutputField → Bool
bad_output_field f = is_none f.operand && (is_some f.code || f.blank_after || is_none f.text)

-- F9 of the operation that ends on the card, or of an output field
abbrev pub bad_operand_columns : List SpecCard → SpecCard → List SpecCard → Bool
bad_operand_columns cards c after = option_map_or (bad_search cards) (card_ending c after) false || option_map_or bad_output_field (output_field_on c.spec) false
