-- The cards of a source, by meaning.
use Rattle.std.specs.Prelude.{ℕ, ◌+◌, List, [], ◌∷◌, Option, None, Some}
use Rattle.rpg_cards.specs.declared.spec_card.SpecCard.{SpecCard}
use Rattle.rpg_sheet_specs.specs.declared.spec.Spec.{Spec}

-- a card without a meaning is left out
abbrev pub with_spec : ℕ → Option Spec → List SpecCard → List SpecCard
with_spec n None cards = cards
with_spec n (Some s) cards = record { number = n; spec = s } ∷ cards

-- those with a meaning, each with its number
abbrev pub numbered_cards : ℕ → List (Option Spec) → List SpecCard
numbered_cards n [] = []
numbered_cards n (s ∷ ss) = with_spec n s (numbered_cards (n + 1) ss)
