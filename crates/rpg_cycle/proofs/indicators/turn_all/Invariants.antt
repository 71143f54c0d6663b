use Rattle.std.proofs.Common.{◌≡◌, drop}
use Rattle.rpg_cycle.specs.Indicators as spec
use Rattle.rpg_machine.specs.Ready.{IsReady}
use Rattle.rpg_cycle.proofs.indicators.turn_all.Given as goal

abbrev pub invariant-loop-number : goal.invariant-loop-number
invariant-loop-number g l = record {
  config : spec.with_all (drop l.number-index l.numbers) l.on l.machine.config ≡ spec.with_all l.numbers l.on l.initial.machine.config;
  program : l.machine.program ≡ l.initial.machine.program;
  last : l.machine.last ≡ l.initial.machine.last;
  output : l.machine.output ≡ l.initial.machine.output;
  ready : IsReady l.initial.machine → IsReady l.machine;
}
