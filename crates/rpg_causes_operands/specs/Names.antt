-- F1, F2: the name that no card defines, or that is defined again in another form; and the card that defines a name.
use Rattle.std.specs.Prelude.{ℕ, List, [], ◌∷◌, ◌++◌, Bool, false, ◌&&◌, slice_get, Option, None, Some, option_and_then, if◌then◌else◌}
use Rattle.std.specs.List.{list_any}
use Rattle.std.specs.Option.{option_map_or, option_or}
use Rattle.rpg_cards.specs.Names.{definitions, definitions_on, form_by, form_in, given_names, is_of}
use Rattle.rpg_cards.specs.declared.names.Definition.{Definition}
use Rattle.rpg_cards.specs.declared.spec_card.SpecCard.{SpecCard}
use Rattle.rpg_causes_operands.specs.declared.names.Redefined.{Redefined}
use Rattle.rpg_program.specs.declared.form.FieldForm.{FieldForm}
use Rattle.rpg_faults_operands.specs.Names.{index_name, is_undefined}
use Rattle.rpg_faults_operands.specs.Operands.{Operand, operands_on}
use Rattle.rpg_sheet_specs.specs.declared.column_range.ColumnRange.{ColumnRange}
use Rattle.rpg_sheet_specs.specs.declared.column_range.ColumnRange.TheVariants as range
use Rattle.rpg_sheet_specs.specs.declared.spec.Spec.{Spec}
use Rattle.rpg_sheet_specs.specs.declared.spec.Spec.TheVariants as spec
use Rattle.rpg_symbols.specs.Fields.{same_form}

-- what the first item with a cause has
abbrev pub first_some : {X Y : Type 0} → (X → Option Y) → List X → Option Y
first_some cause [] = None
first_some cause (x ∷ xs) = option_or (cause x) (first_some cause xs)

-- ---- the card that defines a name

-- the card defines the name
abbrev pub defines : List ℕ → SpecCard → Bool
defines name c = list_any (is_of name) (definitions_on c.spec)

-- the number of the first of these cards that defines the name
abbrev pub first_defining : List ℕ → List SpecCard → Option ℕ
first_defining name [] = None
first_defining name (c ∷ cs) = if defines name c then Some c.number else first_defining name cs

-- the card that defines the name: none of UDATE and PAGE, which every program has
abbrev pub definer : List ℕ → List SpecCard → Option ℕ
definer name cards = if list_any (is_of name) given_names then None else first_defining name cards

-- ---- F1

-- the name, if no card defines it
abbrev pub if_undefined : List SpecCard → List ℕ → Option (List ℕ)
if_undefined cards name = if is_undefined cards name then Some name else None

-- the name of an operand that no card defines: its own, otherwise that of its index
abbrev pub undefined_in : List SpecCard → Operand → Option (List ℕ)
undefined_in cards o = option_or (if_undefined cards o.field.name) (option_and_then (if_undefined cards) (index_name o.field))

-- F1 of a card: the first name among its operands that no card defines
abbrev pub undefined_name : List SpecCard → SpecCard → List SpecCard → Option (List ℕ)
undefined_name cards c after = first_some (undefined_in cards) (operands_on c after)

-- ---- F2

-- a name that is defined as something else, with its form here, its first form and the card that has that
abbrev pub redefined_as : List SpecCard → List ℕ → FieldForm → FieldForm → Option Redefined
redefined_as cards name here first =
    if same_form first here then None else Some (record { name = name; here = here; first = first; definer = definer name cards })

-- a definition whose name has another form by those before it
abbrev pub redefined_by : List SpecCard → List Definition → Definition → Option Redefined
redefined_by cards before d = option_and_then (λ here. option_and_then (redefined_as cards d.name here) (form_in (form_by d.name before))) d.form

-- the first of these that does, each by those before it
abbrev pub redefined_among : List SpecCard → List Definition → List Definition → Option Redefined
redefined_among cards before [] = None
redefined_among cards before (d ∷ ds) = option_or (redefined_by cards before d) (redefined_among cards (before ++ d ∷ []) ds)

-- F2 of a card
abbrev pub redefined : List SpecCard → List SpecCard → SpecCard → Option Redefined
redefined cards before c = redefined_among cards (definitions before) (definitions_on c.spec)

-- ---- the columns of a name that is defined again

-- those of the first name that a card defines
abbrev pub name_columns : Spec → Option ColumnRange
name_columns (spec.Extension e) = Some range.TableName
name_columns (spec.Input i) = Some range.InputName
name_columns (spec.Calculation k) = Some range.ResultName
name_columns _ = None

-- a definition has that form
abbrev pub has_form : Definition → FieldForm → Bool
has_form d here = option_map_or (λ form. same_form form here) d.form false

-- the first definition of a card is of that name and form
abbrev pub defines_first : SpecCard → List ℕ → FieldForm → Bool
defines_first c name here = option_map_or (λ d. is_of name d && has_form d here) (slice_get (definitions_on c.spec) 0) false

-- those of the first name, if it is the one; otherwise of the alternating table
abbrev pub redefined_range : SpecCard → Redefined → Option ColumnRange
redefined_range c r = if defines_first c r.name r.here then name_columns c.spec else Some range.AlternatingName
