-- The fields of a program: UDATE and PAGE, then the names that cards define, in the order of their first definitions, then the constants.
use Rattle.std.specs.Prelude.{ℕ, ◌+◌, ◌++◌, fold, length, position, List, [], ◌∷◌, Option, None, Some, is_some, unwrap_or, map, if◌then◌else◌}
use Rattle.std.specs.List.{list_any}
use Rattle.std.specs.Option.{option_map}
use Rattle.rpg_cards.specs.Keys.{Fixed, Key, Named, Nowhere}
use Rattle.rpg_cards.specs.Constants.{constant_form, constants, is_same}
use Rattle.rpg_cards.specs.Names.{definitions}
use Rattle.rpg_cards.specs.declared.constants.Constant.{Constant}
use Rattle.rpg_cards.specs.declared.constants.Constant.TheVariants as constant
use Rattle.rpg_cards.specs.declared.names.Definition.{Definition}
use Rattle.rpg_cards.specs.declared.spec_card.SpecCard.{SpecCard}
use Rattle.rpg_program.specs.declared.form.FieldForm.{FieldForm}
use Rattle.rpg_symbols.specs.Fields.{NamedForms, defined_form, given, number_of_name}

-- ---- names

-- a name that isn't known yet is added
abbrev pub with_name : NamedForms → List ℕ → FieldForm → NamedForms
with_name fields name form = if is_some (defined_form fields name) then fields else fields ++ (name, form) ∷ []

-- a name with its form, if it has one
abbrev pub with_form : NamedForms → List ℕ → Option FieldForm → NamedForms
with_form fields name None = fields
with_form fields name (Some form) = with_name fields name form

-- a definition, unless its form is bad
abbrev pub with_definition : NamedForms → Definition → NamedForms
with_definition fields d = with_form fields d.name d.form

-- the existing ones, then the new definitions
abbrev pub with_definitions : NamedForms → List Definition → NamedForms
with_definitions fields ds = fold with_definition fields ds

-- the fields that every program has, and then those that the cards define
abbrev pub defined_fields : List SpecCard → NamedForms
defined_fields cards = with_definitions given (definitions cards)

-- ---- names, and constants after them

-- the fields of a source: its names with their forms, and its constants
pub record Table : Type 0 where
  pub names : NamedForms
  pub constants : List Constant

-- the fields of these cards
abbrev pub table_of : List SpecCard → Table
table_of cards = record { names = defined_fields cards; constants = constants cards }

-- the forms of the names
abbrev pub name_forms : NamedForms → List FieldForm
name_forms fields = map (λ (f : List ℕ × FieldForm). f.1) fields

-- the forms of all fields, in the order of their numbers
abbrev pub forms : Table → List FieldForm
forms t = name_forms t.names ++ map constant_form t.constants

-- ---- numbers

-- the number of a name, its place from 1; 0 if it isn't defined
abbrev pub name_number : Table → List ℕ → ℕ
name_number t name = unwrap_or (number_of_name t.names name) 0

-- the number of a constant: its place after the names
abbrev pub constant_number : Table → Constant → ℕ
constant_number t c = unwrap_or (option_map (λ i. length t.names + i + 1) (position (is_same c) t.constants)) 0

-- the number of a field, 0 for none
abbrev pub key_number : Table → Key → ℕ
key_number t (Named name) = name_number t name
key_number t (Fixed c) = constant_number t c
key_number t Nowhere = 0

-- ---- forms

-- the form of a field, if it is in the table
abbrev pub key_form : Table → Key → Option FieldForm
key_form t (Named name) = defined_form t.names name
key_form t (Fixed c) = if list_any (is_same c) t.constants then Some (constant_form c) else None
key_form t Nowhere = None

-- ---- words

-- the characters of a text constant, of any other key none
abbrev pub key_word : Table → Key → List ℕ
key_word t (Fixed (constant.Text text)) = if list_any (is_same (constant.Text text)) t.constants then text else []
key_word t _ = []
