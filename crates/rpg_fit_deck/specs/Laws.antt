-- What holds of each deck that is rewritten, whatever the rules do.
use Rattle.std.specs.Prelude.{◌≡◌, ◌≤◌, ℕ, true, false, List, length}
use Rattle.std.specs.List.{flat_map}
use Rattle.std.specs.Str.Lines.{lines}
use Rattle.rpg_text.specs.Lines.{with_line_feed}
use Rattle.rpg_fit_deck.specs.declared.fitted.Fitted.{Fitted}
use Rattle.rpg_fit_deck.specs.New.{new_cards, nothing_reported, rewritten, unreported, IsPart}

-- NEW's cards if there is a sentence
abbrev pub cards_of_new : List ℕ → Fitted → List (List ℕ)
cards_of_new source f = rewritten (lines source) f.slots.items f.end.items

-- what a rewritten deck keeps of its source
abbrev pub IsFitted : List ℕ → Fitted → Type 0
IsFitted source f =
    -- no sentence, no change
    (nothing_reported f.slots.items ≡ true → f.new.items ≡ source)
    × (nothing_reported f.slots.items ≡ false → f.new.items ≡ flat_map with_line_feed (cards_of_new source f))
    -- cards without a sentence keep their bytes and their order
    × IsPart (unreported (lines source) f.slots.items) (new_cards (lines source) f.slots.items)
    -- at most 2,000 cards
    × (nothing_reported f.slots.items ≡ false → length (cards_of_new source f) ≤ 2000)
    × (f.cards ≤ 2000)
    -- cards with a sentence are those of the source: Fitted::remarks answers for 1 to this number alone
    × (f.cards ≡ length (lines source))
