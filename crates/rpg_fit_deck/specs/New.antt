-- The cards of NEW, from those of the source and what happened to each. A source's cards are its lines.
use Rattle.std.specs.Prelude.{◌≡◌, ℕ, Bool, ◌==◌, ◌⊎◌, List, [], ◌∷◌, ◌++◌, map, vec_len, if◌then◌else◌}
use Rattle.std.specs.List.{flat_map, list_all}
use Rattle.rpg_text.specs.Lines.{with_line_feed}
use Rattle.rpg_text.specs.Texts.{trimmed}
use Rattle.rpg_fit_deck.specs.declared.here.Here.{Here}
use Rattle.rpg_fit_deck.specs.declared.here.Here.TheVariants.{Kept, Changed, Gone}
use Rattle.rpg_fit_deck.specs.declared.slot.Made.{Made}
use Rattle.rpg_fit_deck.specs.declared.slot.Slot.{Slot}

-- the lines of the new cards, without blanks at their ends
abbrev pub made_lines : List Made → List (List ℕ)
made_lines cards = map (λ m. trimmed m.card.columns) cards

-- what is at the place of a card
abbrev pub lines_here : List ℕ → Here → List (List ℕ)
lines_here card Kept = card ∷ []
lines_here _ (Changed card) = trimmed card.columns ∷ []
lines_here _ Gone = []

-- for each card of the source, in their order: the cards inserted before it, and what is at its place
abbrev pub new_cards : List (List ℕ) → List Slot → List (List ℕ)
new_cards [] _ = []
new_cards (card ∷ cards) [] = card ∷ new_cards cards []
new_cards (card ∷ cards) (slot ∷ slots) = made_lines slot.before.items ++ lines_here card slot.here ++ new_cards cards slots

-- NEW's cards where there is a sentence: those of the source, and those made at its end
abbrev pub rewritten : List (List ℕ) → List Slot → List Made → List (List ℕ)
rewritten cards slots end = new_cards cards slots ++ made_lines end

-- NEW where there is a sentence, as a text
abbrev pub rewritten_text : List (List ℕ) → List Slot → List Made → List ℕ
rewritten_text cards slots end = flat_map with_line_feed (rewritten cards slots end)

-- nothing has been noted at a card
abbrev pub is_unreported : Slot → Bool
is_unreported slot = vec_len slot.remarks == 0

-- nothing has been noted at any card
abbrev pub nothing_reported : List Slot → Bool
nothing_reported slots = list_all is_unreported slots

-- the cards without a sentence
abbrev pub unreported : List (List ℕ) → List Slot → List (List ℕ)
unreported [] _ = []
unreported (card ∷ cards) [] = card ∷ unreported cards []
unreported (card ∷ cards) (slot ∷ slots) = if is_unreported slot then card ∷ unreported cards slots else unreported cards slots

-- some of a list's members, in their order
abbrev pub IsPart : List (List ℕ) → List (List ℕ) → Type 0
IsPart [] _ = Unit {0}
IsPart (x ∷ xs) [] = ⊥
IsPart (x ∷ xs) (y ∷ ys) = ((x ≡ y) × IsPart xs ys) ⊎ IsPart (x ∷ xs) ys

-- cards without a sentence keep their bytes and their order
abbrev pub KeepsUnreported : Type 0
KeepsUnreported = (cards : List (List ℕ)) (slots : List Slot) → IsPart (unreported cards slots) (new_cards cards slots)
