use Rattle.std.proofs.Common.{◌≡◌, ◌+◌}
use Rattle.rpg_program.specs.Weights.{lines_weight}
use Rattle.rpg_machine_lines.proofs.Weighing.{weight_left}
use Rattle.rpg_machine_lines.specs.Weighed.{weighed}
use Rattle.rpg_program.specs.Object.{lines_of, seen}
use Rattle.rpg_machine_lines.proofs.weights.lines_weight.Given as goal

abbrev pub invariant-loop-line : goal.invariant-loop-line
invariant-loop-line l = l.weight + weight_left (seen l.rows) (weighed l.output) l.rows.lines.items l.line-index ≡ lines_weight (weighed l.output) (lines_of (seen l.rows))
