-- The lines that count for an output.
use Rattle.std.specs.Prelude.{Bool}
use Rattle.rpg_program.specs.Weights.{is_at_detail, is_at_total, is_exception, is_in_cycle}
use Rattle.rpg_program.specs.declared.line.Time.{Time}
use Rattle.rpg_machine_lines.specs.declared.weights.Weighed.{Weighed}
use Rattle.rpg_machine_lines.specs.declared.weights.Weighed.TheVariants as outputs

-- the lines that an output may output, by their time
abbrev pub weighed : Weighed → Time → Bool
weighed outputs.Detail time = is_at_detail time
weighed outputs.Total time = is_at_total time
weighed outputs.Overflow time = is_in_cycle time
weighed outputs.Exception time = is_exception time
