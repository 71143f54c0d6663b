-- Indicators that were tried one after the other.
use Rattle.std.proofs.Common.{◌≡◌, ℕ, ◌-◌, ◌<◌, ◌≤◌, true, subst, arith}
use Rattle.rpg_fit_deck.specs.declared.view.View.{View}
use Rattle.rpg_fit_terms.specs.declared.indicator.Indicator.{Indicator}
use Rattle.rpg_fit_terms.specs.Indicators.{is_indicator_used}

-- from the greatest one down
pub tried_down : (view : View) (indicator : ℕ → Indicator) (top down : ℕ) → ((k : ℕ) → k < down → is_indicator_used view (indicator (top - k)) ≡ true)
    → (n : ℕ) → top - down < n → n ≤ top → is_indicator_used view (indicator n) ≡ true
tried_down view indicator top down below n low high =
    let same : top - (top - n) ≡ n = omega arith in
    subst (λ (m : ℕ). is_indicator_used view (indicator m) ≡ true) same (below (top - n) (omega arith))
