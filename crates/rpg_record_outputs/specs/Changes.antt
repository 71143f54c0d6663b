-- The changes of a deck that reads digits, where it writes none.
use Rattle.std.specs.Prelude.{◌≡◌, ℕ, List, ◌∷◌, map, Bool, false, ◌&&◌, codes, is_some, IfOk}
use Rattle.std.specs.List.{list_any}
use Rattle.rpg_records.specs.Seen.{LayoutSeen, columns_seen, layout_seen}
use Rattle.rpg_records.specs.declared.layout.Layout.{Layout}
use Rattle.rpg_record_decks.specs.Cards.{cards_of}
use Rattle.rpg_record_decks.specs.Fitted.{all_digit_columns, digits_change, length_change}
use Rattle.rpg_record_decks.specs.Types.{is_on_sheet, number_form_on}
use Rattle.rpg_record_decks.specs.declared.deck.DeckCard.{DeckCard}
use Rattle.rpg_record_decks.specs.declared.fitted.CardChange.{CardChange}
use Rattle.rpg_record_outputs.specs.Arrays.{reads_arrays}

-- on the cards of a layout
abbrev pub layout_changes : LayoutSeen → List CardChange
layout_changes layout = length_change layout.card (columns_seen layout) ∷ map digits_change (all_digit_columns layout)

-- an O card of a field that is packed or binary
abbrev pub writes_number : DeckCard → Bool
writes_number c = is_on_sheet (codes "O") c.card && is_some (number_form_on 44 c.card)

-- Where no card reads a packed or binary array or writes a packed or binary field, the changes are those of the layout alone.
abbrev pub AreReadChanges : List ℕ → Layout → List CardChange → Type 0
AreReadChanges source layout changes =
    IfOk (cards_of source) (λ cards. reads_arrays cards ≡ false → list_any writes_number cards ≡ false → changes ≡ layout_changes (layout_seen layout))
