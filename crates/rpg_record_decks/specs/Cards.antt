-- The cards of a deck.
use Rattle.std.specs.Prelude.{ℕ, ◌+◌, List, [], ◌∷◌, length, nat_lt, take, Bool, ◌||◌, not, Result, Ok, Err, if◌then◌else◌}
use Rattle.std.specs.List.{list_all}
use Rattle.std.specs.Str.Lines.{lines}
use Rattle.rpg_sheet_specs.specs.Cards.{begins_data, card_of, ends_source, is_skipped}
use Rattle.rpg_text.specs.Texts.{is_character, trimmed}
use Rattle.rpg_record_decks.specs.Outcomes.{and_then, at_card, onto}
use Rattle.rpg_record_decks.specs.declared.deck.DeckCard.{DeckCard}
use Rattle.rpg_record_decks.specs.declared.fault.CardFault.{CardFault}
use Rattle.rpg_record_decks.specs.declared.fault.CardFault.TheVariants as faults
use Rattle.rpg_record_decks.specs.declared.fault.DeckFault.{DeckFault}

-- a deck has at most 2,000 cards
abbrev pub max_cards : ℕ
max_cards = 2000

-- the card of a line, with its number, or why it is rejected
abbrev pub card_on_line : ℕ → List ℕ → Result DeckCard CardFault
card_on_line n line =
    if nat_lt max_cards n then Err faults.TooMany
    else if nat_lt 80 (length (trimmed line)) then Err faults.TooLong
    else if not (list_all is_character (take 80 line)) then Err faults.NoCharacter
    else Ok (record { number = n; card = card_of line })

-- the card that ends the source or begins data: no card follows it
abbrev pub ends_cards : List ℕ → Bool
ends_cards card = ends_source card || begins_data card

-- a card, if it is neither blank nor a comment, and those after it
abbrev pub with_deck_card : DeckCard → Result (List DeckCard) DeckFault → Result (List DeckCard) DeckFault
with_deck_card c rest = if ends_cards c.card then Ok [] else if is_skipped c.card then rest else onto (c ∷ []) rest

-- the cards of lines that are numbered from n on
abbrev pub cards_on_lines : ℕ → List (List ℕ) → Result (List DeckCard) DeckFault
cards_on_lines n [] = Ok []
cards_on_lines n (line ∷ more) = and_then (at_card n (card_on_line n line)) (λ c. with_deck_card c (cards_on_lines (n + 1) more))

-- the cards of a source
abbrev pub cards_of : List ℕ → Result (List DeckCard) DeckFault
cards_of source = cards_on_lines 1 (lines source)
