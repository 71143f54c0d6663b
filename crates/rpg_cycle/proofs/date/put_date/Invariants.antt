use Rattle.std.proofs.Common.{◌≡◌, ◌+◌, drop}
use Rattle.rpg_cycle.specs.Dating.{memory_dated}
use Rattle.rpg_cycle.proofs.date.put_date.Given as goal

abbrev pub invariant-loop-form : goal.invariant-loop-form
invariant-loop-form g l = record {
  place : l.field ≡ l.form-index + 1;
  own : l.memory.program.fields ≡ l.forms;
  dated : memory_dated l.date l.field (drop l.form-index l.forms) l.memory ≡ memory_dated l.date 1 l.forms l.initial.memory;
}
