-- The names that cards define, and their forms.
use Rattle.std.specs.Prelude.{ℕ, ◌+◌, ◌-◌, List, [], ◌∷◌, ◌++◌, map, Bool, true, false, not, ◌&&◌, ◌||◌, nat_le, nat_eq, if◌then◌else◌, Option, None, Some, codes, take}
use Rattle.std.specs.List.{list_any, flat_map}
use Rattle.std.specs.Option.{option_map, option_and_then, option_to_list}
use Rattle.std.specs.Cmp.Lexicographic.{pointwise}
use Rattle.rpg_cards.specs.Insertions.{insert_all}
use Rattle.rpg_cards.specs.Cards.{input_field_on, calculation_on, extension_on}
use Rattle.rpg_symbols.specs.Fields.{given, defined_form}
use Rattle.rpg_cards.specs.declared.names.Defined.{Defined}
use Rattle.rpg_cards.specs.declared.names.Defined.TheVariants.{Missing, Bad, Valid}
use Rattle.rpg_cards.specs.declared.names.Definition.{Definition}
use Rattle.rpg_cards.specs.declared.spec_card.SpecCard.{SpecCard}
use Rattle.rpg_program.specs.declared.form.Class.{Class}
use Rattle.rpg_program.specs.declared.form.Class.TheVariants as class
use Rattle.rpg_program.specs.declared.form.FieldForm.{FieldForm}
use Rattle.rpg_program.specs.declared.form.Kind.{Kind}
use Rattle.rpg_program.specs.declared.form.Kind.TheVariants as kind
use Rattle.rpg_sheet_specs.specs.declared.calculation.CalculationSpec.{CalculationSpec}
use Rattle.rpg_sheet_specs.specs.declared.extension.ExtensionSpec.{ExtensionSpec}
use Rattle.rpg_sheet_specs.specs.declared.extension.TableSpec.{TableSpec}
use Rattle.rpg_sheet_specs.specs.declared.input.InputFieldSpec.{InputFieldSpec}
use Rattle.rpg_sheet_specs.specs.declared.spec.Spec.{Spec}
use Rattle.rpg_text.specs.Texts.{is_between}

-- ---- forms

-- the form of a field or table
abbrev pub form_with : Class → Bool → ℕ → Kind → ℕ → ℕ → FieldForm
form_with c ascending n k len d = record { kind = k; class = c; length = len; decimals = d; is_ascending = ascending; entries = n }

-- A field of that length: a text if the decimals are blank. A text has 1 to 256 characters; a number has 1 to 15 digits,
-- of which at most 9 are decimals.
abbrev pub sized : (Kind → ℕ → ℕ → FieldForm) → ℕ → Option ℕ → Option FieldForm
sized made len None = if is_between 1 256 len then Some (made kind.Text len 0) else None
sized made len (Some decimals) = if is_between 1 15 len && nat_le decimals 9 && nat_le decimals len then Some (made kind.Number len decimals) else None

-- the form of a field without entries
abbrev pub sized_form : ℕ → Option ℕ → Option FieldForm
sized_form len decimals = sized (form_with class.Plain false 1) len decimals

-- ---- definitions

-- the form of an input field, by its columns in the record and its decimals
abbrev pub field_form : InputFieldSpec → Option FieldForm
field_form f = if nat_le f.from f.to then sized_form (f.to + 1 - f.from) f.decimals else None

-- what an input field defines
abbrev pub definition_of : InputFieldSpec → Definition
definition_of f = record { name = f.name; form = field_form f }

-- a result field, or the array of an entry, is defined if the card has a length
abbrev pub definition_by : CalculationSpec → Option Definition
definition_by k = option_and_then (λ len. option_map (λ e. record { name = e.name; form = sized_form len k.decimals }) k.result_field) k.length

-- a table's name begins with TAB; other names on E cards are arrays
abbrev pub is_table_name : List ℕ → Bool
is_table_name name = pointwise nat_eq (codes "TAB") (take 3 name)

-- table or array, by its name
abbrev pub table_class : List ℕ → Class
table_class name = if is_table_name name then class.Table else class.Array

-- the form of a table or array with this many entries
abbrev pub table_form : ℕ → TableSpec → Option FieldForm
table_form entries t = if is_between 1 9999 entries then sized (form_with (table_class t.name) t.ascending entries) t.length t.decimals else None

-- the table of an E card, and its alternating one
abbrev pub tables_on : ExtensionSpec → List TableSpec
tables_on e = e.table ∷ option_to_list e.alternating

-- what an E card defines by one of its names
abbrev pub definition_in : ExtensionSpec → TableSpec → Definition
definition_in e t = record { name = t.name; form = table_form e.entries t }

-- what a card defines: one or two tables or arrays, an input field, or a result field
abbrev pub definitions_on : Spec → List Definition
definitions_on s =
    flat_map (λ e. map (definition_in e) (tables_on e)) (option_to_list (extension_on s))
    ++ option_to_list (option_map definition_of (input_field_on s))
    ++ option_to_list (option_and_then definition_by (calculation_on s))

-- all definitions of a source, in the order of its cards
abbrev pub definitions : List SpecCard → List Definition
definitions [] = []
definitions (c ∷ cs) = definitions_on c.spec ++ definitions cs

-- ---- a name has the form of its first definition

-- a definition that has a form, or one that can have none
abbrev pub defined_as : Option FieldForm → Defined
defined_as None = Bad
defined_as (Some form) = Valid form

-- the definition is of that name
abbrev pub is_of : List ℕ → Definition → Bool
is_of name d = pointwise nat_eq name d.name

-- the form in the first definition of a name
abbrev pub first_form : List ℕ → List Definition → Defined
first_form name [] = Missing
first_form name (d ∷ ds) = if is_of name d then defined_as d.form else first_form name ds

-- a predefined form takes precedence
abbrev pub unless_given : Option FieldForm → Defined → Defined
unless_given (Some form) d = Valid form
unless_given None d = d

-- the date and the page number come before all definitions
abbrev pub form_by : List ℕ → List Definition → Defined
form_by name ds = unless_given (defined_form given name) (first_form name ds)

-- the form of a name in a source
abbrev pub form_of_name : List ℕ → List SpecCard → Defined
form_of_name name cards = form_by name (definitions cards)

-- no card defines the name
abbrev pub is_missing : Defined → Bool
is_missing Missing = true
is_missing Bad = false
is_missing (Valid form) = false

-- nothing is required of a name without a form
abbrev pub form_in : Defined → Option FieldForm
form_in Missing = None
form_in Bad = None
form_in (Valid form) = Some form

-- ---- names: the predefined ones, then each with its first definition

-- a predefined name as a definition
abbrev pub defined_field : List ℕ × FieldForm → Definition
defined_field f = record { name = f.0; form = Some f.1 }

-- the predefined names: the date and the page number
abbrev pub given_names : List Definition
given_names = map defined_field given

-- two definitions are of one name
abbrev pub same_name : Definition → Definition → Bool
same_name d = is_of d.name

-- the names of a source: the predefined ones, then in order of first definition
abbrev pub names : List SpecCard → List Definition
names cards = insert_all same_name given_names (definitions cards)

-- neither predefined nor among these definitions
abbrev pub is_new_name : List ℕ → List Definition → Bool
is_new_name name ds = not (list_any (is_of name) given_names || list_any (is_of name) ds)
