use Rattle.std.proofs.Common.{◌≡◌, ◌+◌}
use Rattle.rpg_program.specs.Weights.{exceptions_weight, is_exception, is_in_cycle, overflow_weight}
use Rattle.rpg_program.specs.Object.{lines_of, seen}
use Rattle.rpg_verify.proofs.Left.{weight_left}
use Rattle.rpg_verify.proofs.weights.line_weights.Given as goal

abbrev pub invariant-loop-line : goal.invariant-loop-line
invariant-loop-line l = record {
  exceptions : l.exceptions + weight_left (seen l.rows) is_exception l.rows.lines.items l.line-index ≡ exceptions_weight (lines_of (seen l.rows));
  others : l.others + weight_left (seen l.rows) is_in_cycle l.rows.lines.items l.line-index ≡ overflow_weight (lines_of (seen l.rows));
}
