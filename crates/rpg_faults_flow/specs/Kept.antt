-- A source in which no card breaks a rule.
use Rattle.std.specs.Prelude.{◌≡◌, List, ◌∷◌, ◌++◌, Bool, false}
use Rattle.rpg_cards.specs.declared.spec_card.SpecCard.{SpecCard}

-- whether a card breaks the rule, given the cards before it, the card, and the cards after it
abbrev pub Rule : Type 0
Rule = List SpecCard → SpecCard → List SpecCard → Bool

-- no card of the source breaks the rule
abbrev pub KeepsRule : Rule → List SpecCard → Type 0
KeepsRule r cards = (before : List SpecCard) (c : SpecCard) (after : List SpecCard) → cards ≡ before ++ c ∷ after → r before c after ≡ false
