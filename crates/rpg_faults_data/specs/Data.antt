-- F18: the data of a table that are missing, too few, too many, bad or out of sequence.
use Rattle.std.specs.Prelude.{ℕ, ◌+◌, ◌*◌, ℤ, int_lt, List, [], ◌∷◌, map, length, take, Bool, true, false, not, ◌&&◌, ◌||◌, ◌==◌, nat_lt, nat_le, sum_by, count_by, slice_range, Option, None, Some, is_none, is_some}
use Rattle.std.specs.Int.{div_ceil}
use Rattle.std.specs.List.{flat_map, list_all, list_any, range_with_len, slice_get}
use Rattle.std.specs.Option.{option_map, option_map_or}
use Rattle.std.specs.Ordering.{is_lt}
use Rattle.rpg_cards.specs.Cards.{data_on, extension_on}
use Rattle.rpg_cards.specs.Groups.{data_role, group_count, groups}
use Rattle.rpg_cards.specs.Names.{is_table_name, table_form, tables_on}
use Rattle.rpg_cards.specs.declared.spec_card.SpecCard.{SpecCard}
use Rattle.rpg_decimal_words.specs.Order.{text_cmp}
use Rattle.rpg_decimal_words.specs.Zoned.{number_in}
use Rattle.rpg_sheet_specs.specs.declared.data.DataSpec.{DataSpec}
use Rattle.rpg_sheet_specs.specs.declared.data.DataSpec.TheVariants as deck
use Rattle.rpg_sheet_specs.specs.declared.extension.ExtensionSpec.{ExtensionSpec}
use Rattle.rpg_sheet_specs.specs.declared.extension.TableSpec.{TableSpec}

-- ---- which data are whose: the E cards with entries per card take the decks in their order

-- the E card's table has its values in the source
abbrev pub expects_data : SpecCard → Bool
expects_data c = option_map_or (λ (e : ExtensionSpec). is_some e.entries_per_card) (extension_on c.spec) false

-- how many cards want data
abbrev pub wanted : List SpecCard → ℕ
wanted cards = count_by expects_data cards

-- the texts of the deck with this number, from 0: of the cards after its `**` card
abbrev pub deck_at : ℕ → List SpecCard → Option (List (List ℕ))
deck_at n cards = option_map (λ g. g.followers) (slice_get (groups data_role cards) n)

-- ---- the entries of a table: each takes `width` columns of a card and is in `len` of them, from column `from` on

-- the text of an entry on a data card
abbrev pub entry_on : ℕ → ℕ → ℕ → List ℕ → ℕ → List ℕ
entry_on width from len card i = slice_range card (i * width + from) (i * width + from + len)

-- the texts of all entries on a data card
abbrev pub entries_on : ℕ → ℕ → ℕ → ℕ → List ℕ → List (List ℕ)
entries_on per_card width from len card = map (entry_on width from len card) (range_with_len 0 per_card)

-- the first n of the cards', in order
abbrev pub data_entries : ℕ → ℕ → ℕ → ℕ → ℕ → List (List ℕ) → List (List ℕ)
data_entries n per_card width from len cards = take n (flat_map (entries_on per_card width from len) cards)

-- ---- entries that are bad or out of sequence

-- one that should be a number but isn't
abbrev pub is_bad : Option ℕ → List ℕ → Bool
is_bad None text = false
is_bad (Some decimals) text = is_none (number_in text)

-- both are numbers, and the first is lower
abbrev pub are_lower : Option ℤ → Option ℤ → Bool
are_lower (Some m) (Some n) = int_lt m n
are_lower (Some m) None = false
are_lower None n = false

-- an entry is lower than another: a text by the collating sequence, a number by its value
abbrev pub is_lower : Option ℕ → List ℕ → List ℕ → Bool
is_lower None a b = is_lt (text_cmp a b)
is_lower (Some decimals) a b = are_lower (number_in a) (number_in b)

-- an entry is lower than the one before it
abbrev pub descends : {X : Type 0} → (X → X → Bool) → List X → Bool
descends lower [] = false
descends lower (x ∷ []) = false
descends lower (x ∷ y ∷ ys) = lower y x || descends lower (y ∷ ys)

-- the entries of a table are bad: one isn't a value of its form, or they don't ascend if they should
abbrev pub bad_table_data : TableSpec → List (List ℕ) → Bool
bad_table_data t texts = list_any (is_bad t.decimals) texts || (t.ascending && descends (is_lower t.decimals) texts)

-- ---- the deck of an E card

-- the columns that an entry takes on a data card, with its alternating one
abbrev pub data_columns : ExtensionSpec → ℕ
data_columns e = sum_by (λ (t : TableSpec). t.length) (tables_on e)

-- how many cards this many entries need
abbrev pub cards_for : ℕ → ℕ → ℕ
cards_for n per_card = div_ceil n per_card

-- the tables of an E card, in sequence
abbrev pub bad_tables : ExtensionSpec → ℕ → List (List ℕ) → ℕ → List TableSpec → Bool
bad_tables e per_card cards from [] = false
bad_tables e per_card cards from (t ∷ ts) =
    bad_table_data t (data_entries e.entries per_card (data_columns e) from t.length cards) || bad_tables e per_card cards (from + t.length) ts

-- the data of an E card don't fit it: the entries on a card, the number of cards, or an entry
abbrev pub bad_deck : ExtensionSpec → ℕ → List (List ℕ) → Bool
bad_deck e per_card cards =
    per_card == 0 || (nat_lt 80 (per_card * data_columns e) || (not (length cards == cards_for e.entries per_card) || bad_tables e per_card cards 0 (tables_on e)))

-- ---- the rule

-- no further rule applies if a table has no form
abbrev pub has_forms : ExtensionSpec → Bool
has_forms e = list_all (λ t. is_some (table_form e.entries t)) (tables_on e)

-- one of the names is a table's
abbrev pub has_table : ExtensionSpec → Bool
has_table e = list_any (λ (t : TableSpec). is_table_name t.name) (tables_on e)

-- a table must have data, an array may do without
abbrev pub bad_data : List SpecCard → List SpecCard → ExtensionSpec → Option ℕ → Bool
bad_data cards before e None = has_table e
bad_data cards before e (Some per_card) = option_map_or (λ texts. has_forms e && bad_deck e per_card texts) (deck_at (wanted before) cards) true

-- the same by the entries per card that the E card has
abbrev pub has_bad_data : List SpecCard → List SpecCard → ExtensionSpec → Bool
has_bad_data cards before e = bad_data cards before e e.entries_per_card

-- as many decks are before as E cards want
abbrev pub are_taken : List SpecCard → List SpecCard → Bool
are_taken cards before = nat_le (wanted cards) (group_count data_role before)

-- data that no E card expects: at their `**` card
abbrev pub is_unwanted : List SpecCard → List SpecCard → DataSpec → Bool
is_unwanted cards before deck.Begin = are_taken cards before
is_unwanted cards before (deck.Card text) = false

-- the card breaks the rules of table data
abbrev pub breaks_data : List SpecCard → List SpecCard → SpecCard → Bool
breaks_data cards before c =
    option_map_or (λ (e : ExtensionSpec). has_bad_data cards before e) (extension_on c.spec) false
    || option_map_or (is_unwanted cards before) (data_on c.spec) false
