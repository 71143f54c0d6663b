use Rattle.std.proofs.Common.{◌≡◌, ◌||◌, drop}
use Rattle.rpg_cycle.specs.Indicators as spec
use Rattle.rpg_cycle.proofs.indicators.is_halt_indicated.Given as goal

abbrev pub invariant-loop-number : goal.invariant-loop-number
invariant-loop-number g l = record {
  items : l.number-items ≡ spec.halt_indicators;
  rest : (l.is_due || spec.any_on l.machine.config (drop l.number-index l.number-items)) ≡ spec.any_on l.machine.config spec.halt_indicators;
}
