-- What is left of a card whose first columns are read: what these mean, and the columns after them.
use Rattle.std.specs.Prelude.{ℕ, List, Bool, Option, codes}
use Rattle.rpg_sheet_specs.specs.declared.calculation.CalculationSpec.{CalculationSpec}
use Rattle.rpg_sheet_specs.specs.declared.calculation.ControlLevel.{ControlLevel}
use Rattle.rpg_sheet_specs.specs.declared.extension.ExtensionSpec.{ExtensionSpec}
use Rattle.rpg_sheet_specs.specs.declared.file.FileRole.{FileRole}
use Rattle.rpg_sheet_specs.specs.declared.file.FileSpec.{FileSpec}
use Rattle.rpg_sheet_specs.specs.declared.indicator.ConditionSpec.{ConditionSpec}
use Rattle.rpg_sheet_specs.specs.declared.indicator.Three.{Three}
use Rattle.rpg_sheet_specs.specs.declared.input.InputFieldSpec.{InputFieldSpec}
use Rattle.rpg_sheet_specs.specs.Columns.{Columns, values, at, at_with, blank, ◌⊛◌, ◌⊘◌}
use Rattle.rpg_sheet_specs.specs.Tables.{alternating, calculation_spec, control_field_level, device_named, extension_spec, file_overflow, file_spec, form_mark, input_field, match_field_level, operation, three_indicators}
use Rattle.rpg_sheet_specs.specs.Values.{blank_or, digits, entry, factor, marked, number}

-- an F card from its record length on
abbrev pub rest_of_file : List ℕ → FileRole → Bool → Bool → Columns FileSpec
rest_of_file name role ends_job ascending = values (file_spec name role ends_job ascending)
    ⊛ at 24 27 number
    ⊛ file_overflow
    ⊛ at_with 39 39 form_mark
    ⊛ at 40 46 device_named
    ⊘ blank 47 74

-- an E card from the entry's format on
abbrev pub rest_of_extension : List ℕ → Option ℕ → ℕ → ℕ → Columns ExtensionSpec
rest_of_extension name entries_per_card entries length = values (extension_spec name entries_per_card entries length)
    ⊘ blank 43 43
    ⊛ at 44 44 (blank_or digits)
    ⊛ at 45 45 (marked (codes "A"))
    ⊛ alternating

-- an I card of a field from its control level on
abbrev pub rest_of_field : ℕ → ℕ → Option ℕ → List ℕ → Columns InputFieldSpec
rest_of_field from to decimals name = values (input_field from to decimals name)
    ⊛ at 59 60 (blank_or control_field_level)
    ⊛ at 61 62 (blank_or match_field_level)
    ⊘ blank 63 64
    ⊛ three_indicators 65 66 67 68 69 70
    ⊘ blank 71 74

-- a C card from its first factor on
abbrev pub rest_of_calculation : ControlLevel → Three (Option ConditionSpec) → Columns CalculationSpec
rest_of_calculation level conditions = values (calculation_spec level conditions)
    ⊛ at 18 27 (blank_or factor)
    ⊛ at 28 32 (blank_or operation)
    ⊛ at 33 42 (blank_or factor)
    ⊛ at 43 48 (blank_or entry)
    ⊛ at 49 51 (blank_or number)
    ⊛ at 52 52 (blank_or digits)
    ⊛ at 53 53 (marked (codes "H"))
    ⊛ three_indicators 54 55 56 57 58 59
