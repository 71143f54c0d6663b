-- F3: why a length, or decimals, are over their limits.
use Rattle.std.specs.Prelude.{ℕ, ◌+◌, ◌-◌, nat_le, Option, None, Some, is_none, option_and_then, if◌then◌else◌}
use Rattle.std.specs.Option.{option_map, option_or}
use Rattle.rpg_cards.specs.Cards.{calculation_on, extension_on, input_field_on}
use Rattle.rpg_cards.specs.Names.{sized_form}
use Rattle.rpg_cards.specs.declared.spec_card.SpecCard.{SpecCard}
use Rattle.rpg_causes_operands.specs.declared.sizes.SizeCause.{SizeCause}
use Rattle.rpg_causes_operands.specs.declared.sizes.SizeCause.TheVariants.{Decimals, Digits, Length, NoLength}
use Rattle.rpg_causes_operands.specs.declared.sizes.SizeColumns.{SizeColumns}
use Rattle.rpg_causes_operands.specs.declared.sizes.SizeFault.{SizeFault}
use Rattle.rpg_sheet_specs.specs.declared.calculation.CalculationSpec.{CalculationSpec}
use Rattle.rpg_sheet_specs.specs.declared.column_range.ColumnRange.{ColumnRange}
use Rattle.rpg_sheet_specs.specs.declared.column_range.ColumnRange.TheVariants as range
use Rattle.rpg_sheet_specs.specs.declared.extension.ExtensionSpec.{ExtensionSpec}
use Rattle.rpg_sheet_specs.specs.declared.extension.TableSpec.{TableSpec}
use Rattle.rpg_sheet_specs.specs.declared.input.InputFieldSpec.{InputFieldSpec}
use Rattle.rpg_text.specs.Texts.{is_between}

-- ---- the columns of a length, and of decimals

-- of an E card's table
abbrev pub of_table : SizeColumns
of_table = record { length = range.EntryLength; decimals = range.EntryDecimals }

-- of its alternating table
abbrev pub of_alternating : SizeColumns
of_alternating = record { length = range.AlternatingLength; decimals = range.AlternatingDecimals }

-- of an input field, whose columns give its length
abbrev pub of_input : SizeColumns
of_input = record { length = range.LastColumn; decimals = range.LastColumn }

-- of a result field
abbrev pub of_result : SizeColumns
of_result = record { length = range.ResultLength; decimals = range.ResultDecimals }

-- ---- F3

-- a cause, with its columns
abbrev pub fault_at : ColumnRange → SizeCause → SizeFault
fault_at at cause = record { at = at; cause = cause }

-- for a size over a limit: a text's length, a number's digits, otherwise its decimals
abbrev pub size_past : SizeColumns → ℕ → Option ℕ → SizeFault
size_past at len None = fault_at at.length (Length len)
size_past at len (Some decimals) = if is_between 1 15 len then fault_at at.decimals (Decimals decimals len) else fault_at at.length (Digits len)

-- a size that no field has
abbrev pub size_by : SizeColumns → ℕ → Option ℕ → Option SizeFault
size_by at len decimals = if is_none (sized_form len decimals) then Some (size_past at len decimals) else None

-- that of a table
abbrev pub table_size_cause : SizeColumns → TableSpec → Option SizeFault
table_size_cause at t = size_by at t.length t.decimals

-- that of an E card's table, otherwise of its alternating one
abbrev pub tables_size_cause : ExtensionSpec → Option SizeFault
tables_size_cause e = option_or (table_size_cause of_table e.table) (option_and_then (table_size_cause of_alternating) e.alternating)

-- that of an input field whose columns aren't reversed
abbrev pub input_field_size_cause : InputFieldSpec → Option SizeFault
input_field_size_cause f = if nat_le f.from f.to then size_by of_input (f.to + 1 - f.from) f.decimals else None

-- that of a result field: decimals need a length
abbrev pub result_size_cause : Option ℕ → Option ℕ → Option SizeFault
result_size_cause None decimals = option_map (λ n. fault_at range.ResultDecimals NoLength) decimals
result_size_cause (Some len) decimals = size_by of_result len decimals

-- F3 of a card
abbrev pub size_cause : SpecCard → Option SizeFault
size_cause c =
    option_or (option_and_then tables_size_cause (extension_on c.spec))
    (option_or (option_and_then input_field_size_cause (input_field_on c.spec))
    (option_and_then (λ (k : CalculationSpec). result_size_cause k.length k.decimals) (calculation_on c.spec)))
