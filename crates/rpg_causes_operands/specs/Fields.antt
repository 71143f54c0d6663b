-- F9 of fields: the sequence of what LOKUP searches, and output fields.
use Rattle.std.specs.Prelude.{List, Option, None, Some, is_none, is_some, option_and_then, if◌then◌else◌}
use Rattle.std.specs.Option.{option_map, option_or}
use Rattle.rpg_cards.specs.Calculations.{card_ending}
use Rattle.rpg_cards.specs.Cards.{output_field_on}
use Rattle.rpg_sheet_specs.specs.Operations.{card_columns}
use Rattle.rpg_sheet_specs.specs.declared.operations.OperationColumns.{OperationColumns}
use Rattle.rpg_cards.specs.declared.spec_card.SpecCard.{SpecCard}
use Rattle.rpg_causes_operands.specs.Names.{definer}
use Rattle.rpg_causes_operands.specs.declared.fields.FieldCause.{FieldCause}
use Rattle.rpg_causes_operands.specs.declared.fields.FieldCause.TheVariants.{BlankAfterAlone, CodeAlone, NoField, Unordered}
use Rattle.rpg_faults_operands.specs.Columns.{is_unordered}
use Rattle.rpg_faults_operands.specs.Operands.{factor_entry}
use Rattle.rpg_sheet_specs.specs.declared.calculation.CalculationSpec.{CalculationSpec}
use Rattle.rpg_sheet_specs.specs.declared.column_range.ColumnRange.{ColumnRange}
use Rattle.rpg_sheet_specs.specs.declared.column_range.ColumnRange.TheVariants as range
use Rattle.rpg_sheet_specs.specs.declared.entry.Entry.{Entry}
use Rattle.rpg_sheet_specs.specs.declared.output.OutputField.{OutputField}

-- the name that is searched, with the card that defines it
abbrev pub searched_name_cause : List SpecCard → Option Entry → FieldCause
searched_name_cause cards e = Unordered (option_map (λ (x : Entry). x.name) e) (option_and_then (λ (x : Entry). definer x.name cards) e)

-- high or low of what isn't in ascending sequence
abbrev pub of_search_by : List SpecCard → CalculationSpec → OperationColumns → Option FieldCause
of_search_by cards k t = if is_unordered cards k t then Some (searched_name_cause cards (option_and_then factor_entry k.factor_2)) else None

-- F9 of a search
abbrev pub of_search : List SpecCard → CalculationSpec → Option FieldCause
of_search cards k = option_and_then (λ o. of_search_by cards k (card_columns o)) k.operation

-- an output field without a name: a code, blank after, or nothing
abbrev pub of_output_field : OutputField → Option FieldCause
of_output_field f =
    if is_some f.operand then None
    else if is_some f.code then Some CodeAlone
    else if f.blank_after then Some BlankAfterAlone
    else if is_none f.text then Some NoField
    else None

-- F9 of the operation that ends on the card, or of an output field
abbrev pub field_cause : List SpecCard → SpecCard → List SpecCard → Option FieldCause
field_cause cards c after = option_or (option_and_then (of_search cards) (card_ending c after)) (option_and_then of_output_field (output_field_on c.spec))

-- ---- the columns that a cause is about

-- high if there is one, otherwise low
abbrev pub search_range : Option CalculationSpec → ColumnRange
search_range None = range.ResultMinus
search_range (Some k) = if is_some k.resulting_indicators.first then range.ResultPlus else range.ResultMinus

-- those of a cause, by the calculation that ends on the card
abbrev pub field_range : Option CalculationSpec → FieldCause → ColumnRange
field_range last (Unordered name definer) = search_range last
field_range last CodeAlone = range.OutputCode
field_range last BlankAfterAlone = range.BlankAfter
field_range last NoField = range.OutputName
