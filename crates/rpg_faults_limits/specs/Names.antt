-- F2, F3: names that are defined again in another form, and sizes over their limit.
use Rattle.std.specs.Prelude.{ℕ, List, [], ◌∷◌, ◌++◌, Bool, false, not, ◌&&◌, ◌||◌, nat_le, Option, None, Some, is_none, is_some}
use Rattle.std.specs.List.{list_any}
use Rattle.std.specs.Option.{option_map_or}
use Rattle.rpg_cards.specs.Cards.{calculation_on, extension_on, input_field_on}
use Rattle.rpg_cards.specs.Names.{definitions, definitions_on, field_form, form_by, form_in, sized_form, tables_on}
use Rattle.rpg_cards.specs.declared.names.Definition.{Definition}
use Rattle.rpg_cards.specs.declared.spec_card.SpecCard.{SpecCard}
use Rattle.rpg_sheet_specs.specs.declared.calculation.CalculationSpec.{CalculationSpec}
use Rattle.rpg_sheet_specs.specs.declared.extension.ExtensionSpec.{ExtensionSpec}
use Rattle.rpg_sheet_specs.specs.declared.extension.TableSpec.{TableSpec}
use Rattle.rpg_sheet_specs.specs.declared.input.InputFieldSpec.{InputFieldSpec}
use Rattle.rpg_symbols.specs.Fields.{same_form}

-- ---- F2: a name that is defined again in another form, also by the alternating table of one card

-- a definition whose form differs from that of its name's first definition, if both have one
abbrev pub redefines_as : List Definition → Definition → Bool
redefines_as before d = option_map_or (λ form. option_map_or (λ first. not (same_form first form)) (form_in (form_by d.name before)) false) d.form false

-- one of these does, given those before it
abbrev pub redefine : List Definition → List Definition → Bool
redefine before [] = false
redefine before (d ∷ ds) = redefines_as before d || redefine (before ++ d ∷ []) ds

-- F2: the card defines a name that had another form before
abbrev pub redefines : List SpecCard → SpecCard → Bool
redefines before c = redefine (definitions before) (definitions_on c.spec)

-- ---- F3: a field or table that is too long or has too many decimals, and decimals where no length is given

-- a table whose length or decimals are out of range
abbrev pub bad_size_of_table : TableSpec → Bool
bad_size_of_table t = is_none (sized_form t.length t.decimals)

-- an E card with such a table
abbrev pub bad_size_of_tables : ExtensionSpec → Bool
bad_size_of_tables e = list_any bad_size_of_table (tables_on e)

-- columns that are reversed have no size
abbrev pub bad_size_of_field : InputFieldSpec → Bool
bad_size_of_field f = nat_le f.from f.to && is_none (field_form f)

-- decimals without a length, or a size that is out of range
abbrev pub bad_size_by : Option ℕ → Option ℕ → Bool
bad_size_by None decimals = is_some decimals
bad_size_by (Some len) decimals = is_none (sized_form len decimals)

-- a result field with such a size
abbrev pub bad_size_of_result : CalculationSpec → Bool
bad_size_of_result k = bad_size_by k.length k.decimals

-- F3: the card has a bad size
abbrev pub bad_size : SpecCard → Bool
bad_size c =
    option_map_or bad_size_of_tables (extension_on c.spec) false
    || option_map_or bad_size_of_field (input_field_on c.spec) false
    || option_map_or bad_size_of_result (calculation_on c.spec) false
