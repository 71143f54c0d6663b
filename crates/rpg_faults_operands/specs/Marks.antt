-- Which columns of a card a fault of its operands points at.
use Rattle.std.specs.Prelude.{List, Bool, false, not, ◌&&◌, Option, None, is_some, if◌then◌else◌}
use Rattle.std.specs.Option.{option_map, option_map_or}
use Rattle.rpg_cards.specs.Cards.{output_field_on}
use Rattle.rpg_cards.specs.declared.spec_card.SpecCard.{SpecCard}
use Rattle.rpg_faults_operands.specs.Editing.{unedited}
use Rattle.rpg_faults_operands.specs.Indexes.{bad_index_of}
use Rattle.rpg_faults_operands.specs.Names.{names_nothing}
use Rattle.rpg_faults_operands.specs.Operands.{Operand, operands_ending}
use Rattle.rpg_sheet_specs.specs.declared.column_range.ColumnRange.{ColumnRange}
use Rattle.rpg_sheet_specs.specs.declared.column_range.ColumnRange.TheVariants as range
use Rattle.rpg_sheet_specs.specs.declared.output.OutputField.{OutputField}

-- ---- F1, F5: the first operand that breaks the rule

-- there is an operand, and it passes
abbrev pub operand_passes : (Operand → Bool) → Option Operand → Bool
operand_passes test o = option_map_or test o false

-- the first column whose operand passes: factor 1, factor 2, the result field, otherwise the name of an output field
abbrev pub first_operand : (Operand → Bool) → SpecCard → List SpecCard → ColumnRange
first_operand test c after =
    if operand_passes test (operands_ending c after).first then range.FirstFactor
    else if operand_passes test (operands_ending c after).second then range.SecondFactor
    else if operand_passes test (operands_ending c after).third then range.ResultName
    else range.OutputName

-- F1 of a card
abbrev pub unknown_name : List SpecCard → SpecCard → List SpecCard → ColumnRange
unknown_name cards c after = first_operand (names_nothing cards) c after

-- F5 of a card
abbrev pub wrong_index : List SpecCard → SpecCard → List SpecCard → ColumnRange
wrong_index cards c after = first_operand (bad_index_of cards) c after

-- ---- F17: the code if it may have the fill, otherwise the fill or the word

-- F17 of an output field
abbrev pub editing_range : OutputField → ColumnRange
editing_range f = if is_some f.code && not (unedited None f) then range.OutputCode else range.OutputText

-- F17 of a card
abbrev pub editing_columns : SpecCard → Option ColumnRange
editing_columns c = option_map editing_range (output_field_on c.spec)
