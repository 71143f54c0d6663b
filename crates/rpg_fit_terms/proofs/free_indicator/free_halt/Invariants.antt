use Rattle.std.proofs.Common.{◌≡◌, ℕ, ◌-◌, ◌<◌, true}
use Rattle.rpg_fit_terms.specs.Indicators.{halt, is_indicator_used}
use Rattle.rpg_fit_terms.proofs.free_indicator.free_halt.Given as goal

abbrev pub invariant-loop-down : goal.invariant-loop-down
invariant-loop-down l = (k : ℕ) → k < l.down → is_indicator_used l.view (halt (9 - k)) ≡ true
