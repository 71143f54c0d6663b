-- The ends of steps and effects.
use Rattle.std.specs.Prelude.{ℕ}
use Rattle.rpg_program.specs.Halts.{halt_number}
use Rattle.rpg_program.specs.declared.outcome.End as rust
use Rattle.rpg_program.specs.declared.outcome.End.TheVariants as answers

-- What is wrong with a step: a place outside the running section; a field, record column or place of a line that doesn't exist, or
-- a write that isn't allowed; a value or a part of a field of a different kind than required; a return without a call.
pub data Fault : Type 0 where
  Jump : Fault
  Storage : Fault
  Kind : Fault
  Return : Fault

-- It continues, halts the job with a number, or is wrong.
pub data End : Type 0 where
  Continues : End
  Halt : ℕ → End
  Wrong : Fault → End

-- the end that the code's result means; the code has no case for a fault
abbrev pub end_of : rust.End → End
end_of answers.Continues = Continues
end_of (answers.Halt h) = Halt (halt_number h)
