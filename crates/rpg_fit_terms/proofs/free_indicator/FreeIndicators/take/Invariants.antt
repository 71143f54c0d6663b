use Rattle.std.proofs.Common.{◌≡◌, ℕ, ◌-◌, ◌<◌, true}
use Rattle.rpg_fit_terms.specs.Indicators.{is_indicator_used, numbered}
use Rattle.rpg_fit_terms.proofs.free_indicator.FreeIndicators.take.Given as goal

abbrev pub invariant-loop-down : goal.invariant-loop-down
invariant-loop-down l = (k : ℕ) → k < l.down → is_indicator_used l.view (numbered (l.left - k)) ≡ true
