-- The warnings of the indicators up to a number.
use Rattle.std.proofs.Common.{◌≡◌, ℕ, ◌+◌, List, [], ◌++◌, refl, add-one}
use Rattle.rpg_cards.specs.declared.spec_card.SpecCard.{SpecCard}
use Rattle.rpg_cli_warnings.specs.Indicators.{indicator_warnings, warnings_up_to}

pub up_to_none : (cards : List SpecCard) → warnings_up_to 0 cards ≡ []
unfolding warnings_up_to
up_to_none cards = refl

pub up_to_next : (n : ℕ) (cards : List SpecCard) → warnings_up_to (n + 1) cards ≡ warnings_up_to n cards ++ indicator_warnings (n + 1) cards
unfolding warnings_up_to
up_to_next n cards = rw (add-one n) refl
