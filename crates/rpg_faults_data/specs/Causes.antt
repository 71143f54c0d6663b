-- F18: what is wrong with the data of a table: the entries per card, the cards, or the first entry that is wrong.
use Rattle.std.specs.Prelude.{ℕ, ◌+◌, ◌-◌, ◌*◌, ◌==◌, nat_le, nat_lt, not, ◌&&◌, List, [], ◌∷◌, map, length, take, count_by, Bool, true, false, Option, None, Some, option_and_then, if◌then◌else◌}
use Rattle.std.specs.List.{flat_map, range_with_len}
use Rattle.std.specs.Option.{option_map, option_map_or, option_or}
use Rattle.rpg_cards.specs.Cards.{data_on, extension_on}
use Rattle.rpg_cards.specs.Names.{tables_on}
use Rattle.rpg_cards.specs.declared.spec_card.SpecCard.{SpecCard}
use Rattle.rpg_faults_data.specs.declared.cause.DataCause.{DataCause}
use Rattle.rpg_faults_data.specs.declared.cause.DataCause.TheVariants as cause
use Rattle.rpg_faults_data.specs.declared.cause.Need.{Need}
use Rattle.rpg_faults_data.specs.declared.wrong_entry.EntryCause.{EntryCause}
use Rattle.rpg_faults_data.specs.declared.wrong_entry.EntryFault.{EntryFault}
use Rattle.rpg_faults_data.specs.declared.wrong_entry.EntryFault.TheVariants.{Lower, NoNumber}
use Rattle.rpg_faults_data.specs.Data.{cards_for, data_columns, entry_on, has_forms, has_table, is_bad, is_lower, wanted}
use Rattle.rpg_faults_data.specs.declared.layout.Layout.{Layout}
use Rattle.rpg_sheet_specs.specs.declared.data.DataSpec.{DataSpec}
use Rattle.rpg_sheet_specs.specs.declared.data.DataSpec.TheVariants as deck
use Rattle.rpg_sheet_specs.specs.declared.extension.ExtensionSpec.{ExtensionSpec}
use Rattle.rpg_sheet_specs.specs.declared.extension.TableSpec.{TableSpec}

-- ---- the cards of a deck

-- what begins a deck
abbrev pub is_deck_begin : DataSpec → Bool
is_deck_begin deck.Begin = true
is_deck_begin (deck.Card text) = false

-- a `**` card
abbrev pub begins_table_data : SpecCard → Bool
begins_table_data c = option_map_or is_deck_begin (data_on c.spec) false

-- the cards after the `**` card with this number, from 0
abbrev pub after_deck_begin : ℕ → List SpecCard → Option (List SpecCard)
after_deck_begin n [] = None
after_deck_begin n (c ∷ cs) = if begins_table_data c then (if n == 0 then Some cs else after_deck_begin (n - 1) cs) else after_deck_begin n cs

-- a card of data: its number and its text
pub record DataCard : Type 0 where
  pub number : ℕ
  pub text : List ℕ

-- the card of data with this number and text
abbrev pub data_card : ℕ → List ℕ → DataCard
data_card n text = record { number = n; text = text }

-- with one more card in front
abbrev pub with_data_card : ℕ → Option DataSpec → List DataCard → List DataCard
with_data_card n None ds = ds
with_data_card n (Some deck.Begin) ds = []
with_data_card n (Some (deck.Card text)) ds = data_card n text ∷ ds

-- the cards of data up to the next `**` card
abbrev pub deck_cards : List SpecCard → List DataCard
deck_cards [] = []
deck_cards (c ∷ cs) = with_data_card c.number (data_on c.spec) (deck_cards cs)

-- ---- the entries of a table: each takes `width` columns of a card and is in `len` of them, from column `from` on

-- an entry: its card, its first column and its text
pub record PlacedEntry : Type 0 where
  pub card : ℕ
  pub column : ℕ
  pub text : List ℕ

-- the entry of that text, on that card from that column on
abbrev pub placed_entry_at : ℕ → ℕ → List ℕ → PlacedEntry
placed_entry_at card column text = record { card = card; column = column; text = text }

-- the entry with this number on a card, from 0
abbrev pub placed_entry_on : ℕ → ℕ → ℕ → DataCard → ℕ → PlacedEntry
placed_entry_on width from len c i = placed_entry_at c.number (i * width + from + 1) (entry_on width from len c.text i)

-- the first n entries of the cards, in order
abbrev pub placed_entries : ℕ → ℕ → ℕ → ℕ → ℕ → List DataCard → List PlacedEntry
placed_entries n per_card width from len cards = take n (flat_map (λ c. map (placed_entry_on width from len c) (range_with_len 0 per_card)) cards)

-- the first n entries of a card, by their layout
abbrev pub entries_on_card : Layout → DataCard → ℕ → List PlacedEntry
entries_on_card l c n = map (placed_entry_on l.width l.from l.length c) (range_with_len 0 n)

-- the first n entries of a deck, by their layout
abbrev pub on_deck : Layout → ℕ → List SpecCard → List PlacedEntry
on_deck l n cards = placed_entries n l.per_card l.width l.from l.length (deck_cards cards)

-- ---- the first entry that is wrong

-- what is wrong with an entry, seen with the one before it
abbrev pub entry_fault : TableSpec → Option (List ℕ) → List ℕ → Option EntryFault
entry_fault t before x =
    if is_bad t.decimals x then Some NoNumber
    else if t.ascending && option_map_or (λ b. is_lower t.decimals x b) before false then Some Lower
    else None

-- the entry with this number of a table, from 1
abbrev pub entry_cause : TableSpec → ℕ → PlacedEntry → EntryFault → EntryCause
entry_cause t number e f = record { name = t.name; number = number; card = e.card; column = e.column; length = t.length; fault = f }

-- an entry, if it is wrong
abbrev pub wrong_entry : TableSpec → ℕ → Option (List ℕ) → PlacedEntry → Option EntryCause
wrong_entry t number before e = option_map (entry_cause t number e) (entry_fault t before e.text)

-- the first of the entries from this number on that is wrong
abbrev pub first_wrong : TableSpec → ℕ → Option (List ℕ) → List PlacedEntry → Option EntryCause
first_wrong t number before [] = None
first_wrong t number before (e ∷ es) = option_or (wrong_entry t number before e) (first_wrong t (number + 1) (Some e.text) es)

-- that of a table of an E card, from this column of an entry on
abbrev pub of_table : ExtensionSpec → ℕ → List DataCard → ℕ → TableSpec → Option EntryCause
of_table e per_card cards from t = first_wrong t 1 None (placed_entries e.entries per_card (data_columns e) from t.length cards)

-- that of its tables, in sequence
abbrev pub of_tables : ExtensionSpec → ℕ → List DataCard → ℕ → List TableSpec → Option EntryCause
of_tables e per_card cards from [] = None
of_tables e per_card cards from (t ∷ ts) = option_or (of_table e per_card cards from t) (of_tables e per_card cards (from + t.length) ts)

-- ---- the data of an E card

-- a number of entries, how many go on a card, and the cards that they need
abbrev pub need_of : ExtensionSpec → ℕ → Need
need_of e per_card = record { entries = e.entries; per_card = per_card; cards = cards_for e.entries per_card }

-- no `**` card is left
abbrev pub missing_deck : ExtensionSpec → ℕ → DataCause
missing_deck e per_card = if per_card == 0 then cause.NoDeck else cause.Missing (need_of e per_card)

-- the entries per card don't fit the card, or the cards don't fit the entries; otherwise an entry is wrong
abbrev pub of_deck : ExtensionSpec → ℕ → List DataCard → Option DataCause
of_deck e per_card cards =
    if per_card == 0 then Some cause.NonePerCard
    else if nat_lt 80 (per_card * data_columns e) then Some (cause.TooWide per_card (data_columns e))
    else if not (length cards == cards_for e.entries per_card) then Some (cause.OtherCards (need_of e per_card) (length cards))
    else option_map cause.Entry (of_tables e per_card cards 0 (tables_on e))

-- no further rule applies if a table has no form
abbrev pub of_after : ExtensionSpec → ℕ → List SpecCard → Option DataCause
of_after e per_card following = if has_forms e then of_deck e per_card (deck_cards following) else None

-- of an E card, by its entries per card
abbrev pub of_extension : List SpecCard → List SpecCard → ExtensionSpec → Option ℕ → Option DataCause
of_extension cards before e None = if has_table e then Some cause.NoData else None
of_extension cards before e (Some per_card) = option_map_or (of_after e per_card) (after_deck_begin (wanted before) cards) (Some (missing_deck e per_card))

-- ---- data that no E card expects

-- a `**` card by its number, from 1, and how many E cards want data
abbrev pub of_begin : List SpecCard → List SpecCard → Option DataCause
of_begin cards before = if nat_le (wanted cards) (count_by begins_table_data before) then Some (cause.Spare (count_by begins_table_data before + 1) (wanted cards)) else None

-- of a card of data
abbrev pub of_data : List SpecCard → List SpecCard → DataSpec → Option DataCause
of_data cards before deck.Begin = of_begin cards before
of_data cards before (deck.Card text) = None

-- F18 of a card
abbrev pub data_cause : List SpecCard → List SpecCard → SpecCard → Option DataCause
data_cause cards before c =
    option_or (option_and_then (λ (e : ExtensionSpec). of_extension cards before e e.entries_per_card) (extension_on c.spec))
    (option_and_then (of_data cards before) (data_on c.spec))
