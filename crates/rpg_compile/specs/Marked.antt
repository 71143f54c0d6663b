-- What holds of instructions whatever is on the cards: two-byte numbers, and indicators from 1 to 129.
use Rattle.std.specs.Prelude.{ℕ, All}
use Rattle.rpg_program.specs.declared.operation.Action.{Action}
use Rattle.rpg_program.specs.declared.operation.Action.TheVariants.{Compute, Divide, Assign, TakeRemainder, CrossFoot, Compare, LookUp, Move, SetIndicators}
use Rattle.rpg_program.specs.declared.operation.Instruction.{Instruction}
use Rattle.rpg_program.specs.declared.operation.Instruction.TheVariants.{Act, Except, Branch, Call, Return}
use Rattle.rpg_program.specs.declared.operation.Operand.{Operand}
use Rattle.rpg_program.specs.Kept.{AreConditions, AreIndicators, IsTwoBytes}
use Rattle.rpg_program.specs.Object.{SubroutineRow}

-- an operation whose indicators are in range
abbrev pub IsMarkedAction : Action (Operand ℕ) → Type 0
IsMarkedAction (Compute operator half a b r s) = AreIndicators s
IsMarkedAction (Divide half a b r s) = AreIndicators s
IsMarkedAction (Assign negated half b r s) = AreIndicators s
IsMarkedAction (TakeRemainder r s) = AreIndicators s
IsMarkedAction (CrossFoot half b r s) = AreIndicators s
IsMarkedAction (Compare a b s) = AreIndicators s
IsMarkedAction (LookUp a b r s) = AreIndicators s
IsMarkedAction (Move side b r) = Unit {0}
IsMarkedAction (SetIndicators is_on s) = AreIndicators s

-- an instruction whose indicators and numbers are in range
abbrev pub IsMarked : Instruction ℕ → Type 0
IsMarked (Act a) = IsMarkedAction a
IsMarked Except = Unit {0}
IsMarked (Branch is_taken_where cs target) = AreConditions cs × IsTwoBytes target
IsMarked (Call subroutine) = IsTwoBytes subroutine
IsMarked (Return subroutine) = IsTwoBytes subroutine

-- a subroutine whose level and instructions are in range
pub record IsMarkedRow (s : SubroutineRow) : Type 0 where
  pub level : IsTwoBytes s.level
  pub instructions : All IsMarked s.instructions
