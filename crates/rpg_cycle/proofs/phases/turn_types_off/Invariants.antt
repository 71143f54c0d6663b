use Rattle.std.proofs.Common.{◌≡◌, drop, map}
use Rattle.rpg_program.specs.Object.{type_row}
use Rattle.rpg_cycle.specs.Indicators as spec
use Rattle.rpg_machine.specs.Ready.{IsReady}
use Rattle.rpg_cycle.proofs.phases.turn_types_off.Given as goal

abbrev pub invariant-loop-record_type : goal.invariant-loop-record_type
invariant-loop-record_type g l = record {
  config : spec.without_types (map type_row (drop l.record_type-index l.types)) l.machine.config ≡ spec.without_types (map type_row l.types) l.initial.machine.config;
  program : l.machine.program ≡ l.initial.machine.program;
  last : l.machine.last ≡ l.initial.machine.last;
  output : l.machine.output ≡ l.initial.machine.output;
  ready : IsReady l.initial.machine → IsReady l.machine;
}
