-- I cards that read packed and binary arrays.
use Rattle.std.specs.Prelude.{◌≡◌, ℕ, List, Bool, false, ◌&&◌, codes, is_some, IfOk}
use Rattle.std.specs.List.{list_any}
use Rattle.std.specs.Str.{bytes_eq}
use Rattle.rpg_sheet_specs.specs.Columns.{cols}
use Rattle.rpg_text.specs.Texts.{all_blank, trimmed}
use Rattle.rpg_record_decks.specs.Cards.{cards_of}
use Rattle.rpg_record_decks.specs.Types.{is_on_sheet, number_form_on}
use Rattle.rpg_record_decks.specs.declared.deck.DeckCard.{DeckCard}

-- an E card that defines an array or a table of this name
abbrev pub defines : List ℕ → DeckCard → Bool
defines name c = is_on_sheet (codes "E") c.card && bytes_eq (trimmed (cols 27 32 c.card)) name

-- a name that an E card defines to be an array or a table
abbrev pub is_array : List DeckCard → List ℕ → Bool
is_array cards name = list_any (defines name) cards

-- an I card of a field that is packed or binary, and that is an array
abbrev pub reads_array : List DeckCard → DeckCard → Bool
reads_array cards c =
    is_on_sheet (codes "I") c.card && all_blank (cols 7 16 c.card) && is_some (number_form_on 43 c.card) && is_array cards (trimmed (cols 53 58 c.card))

-- a card reads a packed or binary array
abbrev pub reads_arrays : List DeckCard → Bool
reads_arrays cards = list_any (reads_array cards) cards

-- no I card of a deck reads a packed or binary array
abbrev pub ReadsNoArray : List ℕ → Type 0
ReadsNoArray source = IfOk (cards_of source) (λ cards. reads_arrays cards ≡ false)
