-- What fields hold before the first cycle.
use Rattle.std.specs.Prelude.{ℕ, ◌+◌, ◌++◌, List, [], ◌∷◌, Option, None, Some, unwrap_or, map, replicate, pos, nat_eq}
use Rattle.std.specs.Cmp.Lexicographic.{pointwise}
use Rattle.std.specs.List.{filter_map}
use Rattle.std.specs.Map.{lookup}
use Rattle.rpg_cards.specs.Cards.{extension_on}
use Rattle.rpg_cards.specs.Groups.{Group, data_role, groups}
use Rattle.rpg_cards.specs.Names.{tables_on}
use Rattle.rpg_cards.specs.declared.constants.Constant.{Constant}
use Rattle.rpg_cards.specs.declared.constants.Constant.TheVariants as constant
use Rattle.rpg_cards.specs.declared.spec_card.SpecCard.{SpecCard}
use Rattle.rpg_program.specs.Input.{value_read}
use Rattle.rpg_program.specs.Values.{Number, Text, Value}
use Rattle.rpg_program.specs.declared.form.FieldForm.{FieldForm}
use Rattle.rpg_program.specs.declared.form.Kind.{Kind}
use Rattle.rpg_program.specs.declared.form.Kind.TheVariants as kind
use Rattle.rpg_faults_data.specs.Data.{data_columns, data_entries}
use Rattle.rpg_sheet_specs.specs.declared.extension.ExtensionSpec.{ExtensionSpec}
use Rattle.rpg_sheet_specs.specs.declared.extension.TableSpec.{TableSpec}
use Rattle.rpg_compile_program.specs.Table.{table_of}

-- the value of a constant
abbrev pub constant_value : Constant → Value
constant_value (constant.Number n) = Number n.value
constant_value (constant.Text text) = Text text

-- zero or blanks
abbrev pub first_of_kind : Kind → ℕ → Value
first_of_kind kind.Number n = Number (pos 0)
first_of_kind kind.Text n = Text (replicate n 32)

-- ---- the entries of a table

-- a number if there are decimals, otherwise a text
abbrev pub kind_by : Option ℕ → Kind
kind_by None = kind.Text
kind_by (Some decimals) = kind.Number

-- a bad entry counts as zero
abbrev pub entry_value : TableSpec → List ℕ → Value
entry_value t text = unwrap_or (value_read (kind_by t.decimals) text) (first_of_kind (kind_by t.decimals) t.length)

-- a name with its values
abbrev pub Loaded : Type 0
Loaded = List ℕ × List Value

-- the tables of a card, one after another on each card of data
abbrev pub tables_loaded : ExtensionSpec → ℕ → List (List ℕ) → ℕ → List TableSpec → List Loaded
tables_loaded e per_card deck from [] = []
tables_loaded e per_card deck from (t ∷ ts) =
    (t.name, map (entry_value t) (data_entries e.entries per_card (data_columns e) from t.length deck)) ∷ tables_loaded e per_card deck (from + t.length) ts

-- a card with entries per card takes the next deck
abbrev pub with_deck : ExtensionSpec → Option ℕ → List (List (List ℕ)) → (List (List (List ℕ)) → List Loaded) → List Loaded
with_deck e None decks later = later decks
with_deck e (Some n) [] later = later []
with_deck e (Some n) (deck ∷ decks) later = tables_loaded e n deck 0 (tables_on e) ++ later decks

-- the tables of these E cards, each card with data taking the next deck
abbrev pub all_loaded : List ExtensionSpec → List (List (List ℕ)) → List Loaded
all_loaded [] decks = []
all_loaded (e ∷ es) decks = with_deck e e.entries_per_card decks (λ rest. all_loaded es rest)

-- the E cards
abbrev pub extensions : List SpecCard → List ExtensionSpec
extensions cards = filter_map (λ c. extension_on c.spec) cards

-- the cards of data after each `**` card
abbrev pub decks : List SpecCard → List (List (List ℕ))
decks cards = map (λ (g : Group (Unit {0}) (List ℕ)). g.followers) (groups data_role cards)

-- the tables and arrays of a source that have data, with their values
abbrev pub loaded : List SpecCard → List Loaded
loaded cards = all_loaded (extensions cards) (decks cards)

-- ---- all fields

-- the data of a name, otherwise zeros or blanks
abbrev pub field_values : List Loaded → List ℕ × FieldForm → List Value
field_values from f = unwrap_or (lookup (pointwise nat_eq f.0) from) (replicate f.1.entries (first_of_kind f.1.kind f.1.length))

-- a constant has one entry
abbrev pub constant_values : Constant → List Value
constant_values c = constant_value c ∷ []

-- the first values of all fields: of the names, and after them of the constants
abbrev pub values_of : List SpecCard → List (List Value)
values_of cards = map (field_values (loaded cards)) (table_of cards).names ++ map constant_values (table_of cards).constants
