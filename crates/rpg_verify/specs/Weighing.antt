-- The weight of all output lines of a program.
use Rattle.std.specs.Prelude.{ℕ, ◌+◌, is_some, if◌then◌else◌}
use Rattle.rpg_program.specs.Weights.{overflow_weight}
use Rattle.rpg_program.specs.Object.{Object, lines_of}

-- the H, D and T lines, once more if the program has an overflow indicator
abbrev pub all_outputs_weight : Object → ℕ
all_outputs_weight p = if is_some p.overflow.indicator then overflow_weight (lines_of p) + overflow_weight (lines_of p) else overflow_weight (lines_of p)
