use Rattle.std.proofs.Common.{◌≡◌, ◌≤◌, ◌+◌, ◌*◌, drop, map}
use Rattle.rpg_program.specs.Object.{type_row}
use Rattle.rpg_cycle_records.specs.Identifying as spec
use Rattle.rpg_cycle_records.proofs.identification.identify_as.Given as goal

abbrev pub invariant-loop-row : goal.invariant-loop-row
invariant-loop-row l = record {
  rest : spec.identified l.file l.row (map type_row (drop l.row l.types)) l.text ≡ spec.identified l.file 0 (map type_row l.types) l.text;
  weight : l.tried + spec.trial_weight l.file (map type_row (drop l.row l.types)) l.text ≡ spec.trial_weight l.file (map type_row l.types) l.text;
  few : l.tried ≤ 100 * l.row;
}
