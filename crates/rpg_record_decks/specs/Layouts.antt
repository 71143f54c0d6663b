-- The layout of the records of a deck's file.
use Rattle.std.specs.Prelude.{ℕ, List, [], ◌∷◌, length, map, nat_lt, Bool, false, true, codes, Option, Some, None, find, option_copied, Result, Ok, Err, if◌then◌else◌}
use Rattle.std.specs.List.{flat_map}
use Rattle.rpg_records.specs.Seen.{LayoutSeen, NumberSeen, columns_seen}
use Rattle.rpg_record_decks.specs.Cards.{cards_of}
use Rattle.rpg_record_decks.specs.Files.{file_name, is_meant, length_by}
use Rattle.rpg_record_decks.specs.Kinds.{type_of}
use Rattle.rpg_record_decks.specs.Outcomes.{and_then, at_card}
use Rattle.rpg_record_decks.specs.Types.{TypeRead, cards_of_file, types_read}
use Rattle.rpg_record_decks.specs.declared.deck.DeckCard.{DeckCard}
use Rattle.rpg_record_decks.specs.declared.deck.DeckArguments.{DeckArguments}
use Rattle.rpg_record_decks.specs.declared.fault.CardFault.TheVariants as card_faults
use Rattle.rpg_record_decks.specs.declared.fault.DeckFault.{DeckFault}
use Rattle.rpg_record_decks.specs.declared.fault.DeckFault.TheVariants as faults

-- the most columns of a line
abbrev pub max_columns : ℕ
max_columns = 9999

-- the layout of these types
abbrev pub layout_with : ℕ → ℕ → List TypeRead → LayoutSeen
layout_with card length types = record { card = card; length = length; types = map (type_of length types) types }

-- a layout whose lines have few enough columns
abbrev pub narrow : LayoutSeen → Result LayoutSeen DeckFault
narrow layout = if nat_lt max_columns (columns_seen layout) then Err (faults.Card layout.card (card_faults.Wide (columns_seen layout))) else Ok layout

-- types without packed and binary fields: their bytes could end a line
abbrev pub without_numbers : List TypeRead → List NumberSeen → Result (List TypeRead) DeckFault
without_numbers types [] = Ok types
without_numbers types (f ∷ more) = Err (faults.Card f.card card_faults.BytesInLines)

-- types of records that are lines or not
abbrev pub framed : Bool → List TypeRead → Result (List TypeRead) DeckFault
framed true types = without_numbers types (flat_map (λ t. t.numbers) types)
framed false types = Ok types

-- a file must have a type
abbrev pub some_types : ℕ → List TypeRead → Result (List TypeRead) DeckFault
some_types card [] = Err (faults.Card card card_faults.NoType)
some_types card (t ∷ ts) = Ok (t ∷ ts)

-- the layout of a file with this record length, by all cards of the deck
abbrev pub layout_for : Bool → DeckCard → List DeckCard → ℕ → Result LayoutSeen DeckFault
layout_for are_lines file cards length =
    and_then (types_read length (cards_of_file (codes "I") (file_name file.card) false cards)) (λ types.
    and_then (some_types file.number types) (λ types.
    and_then (framed are_lines types) (λ types. narrow (layout_with file.number length types))))

-- the same with the length by its card, or by the arguments
abbrev pub layout_of_file : Option ℕ → Bool → List DeckCard → Option DeckCard → Result LayoutSeen DeckFault
layout_of_file given are_lines cards None = Err faults.NoFile
layout_of_file given are_lines cards (Some file) = and_then (at_card file.number (length_by given file.card)) (layout_for are_lines file cards)

-- the first card of the file that is meant
abbrev pub file_meant : DeckArguments → List DeckCard → Option DeckCard
file_meant words cards = find (λ c. is_meant (option_copied words.file) c.card) cards

-- the layout of the records of the file that is meant
abbrev pub layout_by_cards : DeckArguments → List DeckCard → Result LayoutSeen DeckFault
layout_by_cards words cards = layout_of_file words.length words.are_lines cards (file_meant words cards)

-- The layout of the records of a deck's file, or the first card that is rejected.
abbrev pub layout_by : DeckArguments → List ℕ → Result LayoutSeen DeckFault
layout_by words source = and_then (cards_of source) (layout_by_cards words)
