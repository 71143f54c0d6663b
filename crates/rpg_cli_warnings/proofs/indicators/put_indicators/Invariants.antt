use Rattle.std.proofs.Common.{◌≡◌, ◌++◌, ◌≤◌, ◌-◌}
use Rattle.rpg_cli_warnings.specs.Indicators.{warnings_up_to}
use Rattle.rpg_cli_warnings.proofs.indicators.put_indicators.Given as goal

abbrev pub invariant-loop-indicator : goal.invariant-loop-indicator
invariant-loop-indicator l = record {
  within : l.indicator ≤ l.last;
  so_far : l.warnings.items ≡ l.initial.warnings.items ++ warnings_up_to l.indicator l.cards;
}

abbrev pub decreases-loop-indicator : goal.decreases-loop-indicator
decreases-loop-indicator l = l.last - l.indicator
