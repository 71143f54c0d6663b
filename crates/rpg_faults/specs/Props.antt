-- Each of these facts has at most one proof, so a struct can keep it.
use Rattle.std.proofs.Props.{props}
use Rattle.std.specs.Prelude.{ℕ, ◌+◌, ◌≤◌, List, [], ◌∷◌}
use mathlib.Core.HLevel.{×_prop, Unit-prop}
use Rattle.rpg_card_index.specs.Index.{IsIndexOf}
use Rattle.rpg_card_index.specs.declared.index.CardIndex.{CardIndex}
use Rattle.rpg_cards.specs.Cards.{Numbered}
use Rattle.rpg_cards.specs.declared.spec_card.SpecCard.{SpecCard}

pub IsIndexOf-prop : (index : CardIndex) (cards : List SpecCard) → IsProp (IsIndexOf index cards)
IsIndexOf-prop index cards = hlevel props

pub Numbered-prop : (low : ℕ) (cards : List SpecCard) → IsProp (Numbered low cards)
Numbered-prop low [] = Unit-prop
Numbered-prop low (c ∷ cs) = let first : IsProp (low ≤ c.number) = hlevel props in ×_prop first (Numbered-prop (c.number + 1) cs)
