use Rattle.std.proofs.Common.{◌≡◌, ◌+◌, ◌≤◌, length, drop}
use Rattle.rpg_program.specs.Forms.{form_at}
use Rattle.rpg_program.specs.Weights.{instruction_weight}
use Rattle.rpg_verify.specs.Paths.{costs_from}
use Rattle.rpg_verify.proofs.costs.costs_of.Given as goal

abbrev pub invariant-loop-i : goal.invariant-loop-i
invariant-loop-i l = record {
  done : drop l.i l.costs.items ≡ costs_from (instruction_weight (form_at l.rows.fields.items) l.exceptions) (l.first + l.i) (drop l.i l.code);
  within : l.i ≤ length l.code;
  same : length l.costs.items ≡ length l.code;
}

abbrev pub decreases-loop-i : goal.decreases-loop-i
decreases-loop-i l = l.i
