-- OUT is the function of IN and the cards.
use Rattle.std.specs.Prelude.{◌≡◌, ℕ, List, Ok}
use Rattle.rpg_record_decks.specs.Layouts.{layout_by}
use Rattle.rpg_record_decks.specs.declared.deck.DeckArguments.{DeckArguments}
use Rattle.rpg_records.specs.Seen.{layout_seen}
use Rattle.rpg_records.specs.declared.layout.Layout.{Layout}
use Rattle.rpg_record_lines.specs.Conversions.{conversion}
use Rattle.rpg_record_lines.specs.Ways.{to_lines, to_records}
use Rattle.rpg_record_lines.specs.declared.conversion.RecordFormat.{RecordFormat}

-- it is a layout of the records by the cards of a deck
abbrev pub IsLayoutOf : DeckArguments → List ℕ → Layout → Type 0
IsLayoutOf arguments deck layout = layout_by arguments deck ≡ Ok (layout_seen layout)

-- The cards determine the whole conversion, both ways: each input is converted alike by every layout of a deck's records.
abbrev pub CardsSayTheOutput : Type 0
CardsSayTheOutput = (arguments : DeckArguments) (deck input : List ℕ) (format : RecordFormat) (one other : Layout) → IsLayoutOf arguments deck one → IsLayoutOf arguments deck other
    → (conversion (to_lines one format) input ≡ conversion (to_lines other format) input) × (conversion (to_records one format) input ≡ conversion (to_records other format) input)
