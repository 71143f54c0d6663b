-- The numbers of cards go up, and there are no more of them than cards.
use Rattle.std.proofs.Common.{ℕ, ◌+◌, ◌≤◌, List, [], ◌∷◌, length, Option, None, Some, arith}
use Rattle.rpg_cards.specs.declared.spec_card.SpecCard.{SpecCard}
use Rattle.rpg_cards.specs.Cards.{Numbered}
use Rattle.rpg_faults.specs.Cards.{numbered_cards}
use Rattle.rpg_sheet_specs.specs.declared.spec.Spec.{Spec}

-- a lower bound may be lowered
lower : (low more : ℕ) (cs : List SpecCard) → Numbered more cs → low ≤ more → Numbered low cs
lower low more [] h under = tt
lower low more (c ∷ cs) h under = (let k = h.0 in omega arith, h.1)

pub numbers_go_up : (n : ℕ) (cs : List (Option Spec)) → Numbered n (numbered_cards n cs)
numbers_go_up n [] = tt
numbers_go_up n (None ∷ cs) = lower n (n + 1) (numbered_cards (n + 1) cs) (numbers_go_up (n + 1) cs) (omega arith)
numbers_go_up n (Some s ∷ cs) = (omega arith, numbers_go_up (n + 1) cs)

pub no_more_than_cards : (n : ℕ) (cs : List (Option Spec)) → length (numbered_cards n cs) ≤ length cs
no_more_than_cards n [] = omega arith
no_more_than_cards n (None ∷ cs) = omega (arith, no_more_than_cards (n + 1) cs)
no_more_than_cards n (Some s ∷ cs) = omega (arith, no_more_than_cards (n + 1) cs)
