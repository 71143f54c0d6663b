-- What is known of types while cards are read.
use Rattle.std.specs.Prelude.{◌≡◌, ℕ, List, map, Option, Result}
use Rattle.std.specs.Option.{option_map}
use Rattle.rpg_records.specs.Seen.{number_seen}
use Rattle.rpg_sheet_specs.specs.declared.input.InputSpec.{InputSpec}
use Rattle.rpg_record_decks.specs.Outcomes.{onto}
use Rattle.rpg_record_decks.specs.Types.{TypeRead, type_after, types_read_after}
use Rattle.rpg_record_decks.specs.declared.deck.DeckCard.{DeckCard}
use Rattle.rpg_record_decks.specs.declared.fault.DeckFault.{DeckFault}
use Rattle.rpg_record_decks.specs.declared.types.TypeCards.{TypeCards}
use Rattle.rpg_record_decks.specs.declared.types.Types.{Types}

-- a record type's cards, as specs see them
abbrev pub type_read : TypeCards → TypeRead
type_read t = record { card = t.card; codes = t.codes.items; fields = t.fields.items; numbers = map number_seen t.numbers.items }

-- the types that are done
abbrev pub types_done : Types → List TypeRead
types_done types = map type_read types.done.items

-- the type that further cards continue
abbrev pub type_now : Types → Option TypeRead
type_now types = option_map type_read types.now

-- a card means the same after one type or none as after another
abbrev pub GoOnAlike : InputSpec → Option TypeRead → Option TypeRead → Type 0
GoOnAlike spec one other = (length : ℕ) (c : DeckCard) → type_after length one c spec ≡ type_after length other c spec

-- all types, if these cards follow
abbrev pub all_types : ℕ → Types → List DeckCard → Result (List TypeRead) DeckFault
all_types length types cs = onto (types_done types) (types_read_after length (type_now types) cs)
