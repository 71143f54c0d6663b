-- How a phase, a cycle and a job end.
use Rattle.std.specs.Prelude.{ℕ}
use Rattle.rpg_program.specs.Ends as effects
use Rattle.rpg_program.specs.Ends.{Fault}

-- It continues, reaches the end of the job, halts with a number, or is wrong.
pub data PhaseEnd : Type 0 where
  Continues : PhaseEnd
  EndOfJob : PhaseEnd
  Halt : ℕ → PhaseEnd
  Wrong : Fault → PhaseEnd

-- the end of an output, of a section or of input fields
abbrev pub phase_end : effects.End → PhaseEnd
phase_end effects.Continues = Continues
phase_end (effects.Halt k) = Halt k
phase_end (effects.Wrong f) = Wrong f
