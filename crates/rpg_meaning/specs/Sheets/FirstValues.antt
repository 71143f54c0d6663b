-- The values of names and constants before the first cycle. Numbers are the columns of an E card.
use Rattle.std.specs.Prelude.{ℕ, ◌+◌, ◌-◌, ◌*◌, pos, Bool, true, false, nat_eq, nat_lt, List, [], ◌∷◌, Option, None, Some, unwrap_or, find, replicate, if◌then◌else◌}
use Rattle.std.specs.Cmp.Lexicographic.{pointwise}
use Rattle.std.specs.List.{filter_map, flat_map, zip}
use Rattle.std.specs.Option.{option_map, option_map_or, option_to_list}
use Rattle.rpg_cards.specs.Cards.{data_on, extension_on}
use Rattle.rpg_cards.specs.declared.constants.Constant.{Constant}
use Rattle.rpg_cards.specs.declared.constants.Constant.TheVariants as constant
use Rattle.rpg_cards.specs.declared.spec_card.SpecCard.{SpecCard}
use Rattle.rpg_decimal_words.specs.Zoned.{number_in}
use Rattle.rpg_program.specs.Values.{Number, Text, Value}
use Rattle.rpg_program.specs.declared.form.FieldForm.{FieldForm}
use Rattle.rpg_program.specs.declared.form.Kind.{Kind}
use Rattle.rpg_program.specs.declared.form.Kind.TheVariants as kind
use Rattle.rpg_sheet_specs.specs.Columns.{cols}
use Rattle.rpg_sheet_specs.specs.declared.data.DataSpec.{DataSpec}
use Rattle.rpg_sheet_specs.specs.declared.data.DataSpec.TheVariants as deck
use Rattle.rpg_sheet_specs.specs.declared.extension.ExtensionSpec.{ExtensionSpec}
use Rattle.rpg_sheet_specs.specs.declared.extension.TableSpec.{TableSpec}
use Rattle.rpg_sheet_specs.specs.declared.spec.Spec.{Spec}
use Rattle.rpg_meaning.specs.Sheets.Cards.{cards_before}

-- a constant has the value as written
abbrev pub meant_constant : Constant → Value
meant_constant (constant.Number n) = Number n.value
meant_constant (constant.Text text) = Text text

-- zero, or blanks
abbrev pub meant_blank : Kind → ℕ → Value
meant_blank kind.Number len = Number (pos 0)
meant_blank kind.Text len = Text (replicate len 32)

-- ---- data: the cards after each `**` card, up to the next one

-- a ** card among those of table data
abbrev pub begins_deck_by : DataSpec → Bool
begins_deck_by deck.Begin = true
begins_deck_by (deck.Card text) = false

-- a ** card
abbrev pub begins_deck : Spec → Bool
begins_deck s = option_map_or begins_deck_by (data_on s) false

-- the text of a data card
abbrev pub data_text : DataSpec → Option (List ℕ)
data_text deck.Begin = None
data_text (deck.Card text) = Some text

-- the texts of the data cards
abbrev pub data_cards : List SpecCard → List (List ℕ)
data_cards cards = filter_map (λ c. option_map_or data_text (data_on c.spec) None) cards

-- the data of each table: the texts of the cards from each ** to the next
abbrev pub meant_decks : List SpecCard → List (List (List ℕ))
meant_decks [] = []
meant_decks (c ∷ cs) = if begins_deck c.spec then data_cards (cards_before begins_deck cs) ∷ meant_decks cs else meant_decks cs

-- ---- the tables and arrays with data

-- a table or array with its data: how many entries it has (36-39), how many there are on a data card (33-35), the width of an entry or pair on
-- the card, how many columns of a pair come before its own entry, and the data cards
pub record Stored : Type 0 where
  pub table : TableSpec
  pub entries : ℕ
  pub per_card : ℕ
  pub width : ℕ
  pub before : ℕ
  pub deck : List (List ℕ)

-- with an alternating table (46-57) the data cards hold pairs
abbrev pub entry_width : ExtensionSpec → ℕ
entry_width e = option_map_or (λ (t : TableSpec). e.table.length + t.length) e.alternating e.table.length

-- the tables whose values one set of data has: the E card's, and its alternating one
abbrev pub stored_on : (ExtensionSpec × ℕ) × List (List ℕ) → List Stored
stored_on p =
    record { table = p.0.0.table; entries = p.0.0.entries; per_card = p.0.1; width = entry_width p.0.0; before = 0; deck = p.1 }
    ∷ option_to_list (option_map (λ t. record { table = t; entries = p.0.0.entries; per_card = p.0.1; width = entry_width p.0.0; before = p.0.0.table.length; deck = p.1 }) p.0.0.alternating)

-- an E card whose data follow the sheets: 33-35 is filled
abbrev pub wanting : ExtensionSpec → Option (ExtensionSpec × ℕ)
wanting e = option_map (λ n. (e, n)) e.entries_per_card

-- the n-th E card with data has the cards after the n-th `**` card
abbrev pub all_stored : List SpecCard → List Stored
all_stored cards = flat_map stored_on (zip (filter_map wanting (filter_map (λ c. extension_on c.spec) cards)) (meant_decks cards))

-- ---- entries, counted from 0

-- the columns of the n-th entry: each data card has as many entries or pairs as columns 33-35 say
abbrev pub entry_text : Stored → List (List ℕ) → ℕ → Option (List ℕ)
entry_text s [] n = None
entry_text s (card ∷ deck) n = if nat_lt n s.per_card then Some (cols (n * s.width + s.before + 1) (n * s.width + s.before + s.table.length) card) else entry_text s deck (n - s.per_card)

-- if 44 (56) is filled a number, written as in a record; if it is blank a text
abbrev pub entry_by : Option ℕ → List ℕ → Value
entry_by None text = Text text
entry_by (Some decimals) text = Number (unwrap_or (number_in text) (pos 0))

-- the value of an entry
abbrev pub meant_entry : Stored → ℕ → Option Value
meant_entry s n = if nat_lt n s.entries then option_map (entry_by s.table.decimals) (entry_text s s.deck n) else None

-- ---- names: the n-th entry has its data, or zero or blanks if the name has none

-- the first value of an entry of a name: from the data of a source, otherwise zero or blanks
abbrev pub meant_named_value : List SpecCard → List ℕ → FieldForm → ℕ → Option Value
meant_named_value cards name form n =
    option_map_or (λ s. meant_entry s n) (find (λ (s : Stored). pointwise nat_eq name s.table.name) (all_stored cards)) (if nat_lt n form.entries then Some (meant_blank form.kind form.length) else None)
