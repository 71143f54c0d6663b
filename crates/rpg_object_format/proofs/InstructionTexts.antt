-- The numbers of instructions, and the bytes that spell them.
use Rattle.std.proofs.Common.{◌≡◌, ℕ, Bool, true, false, Option, Some, None, refl}
use Rattle.rpg_program.specs.declared.operation.Action.{Action}
use Rattle.rpg_program.specs.declared.operation.Action.TheVariants as actions
use Rattle.rpg_program.specs.declared.operation.Instruction.{Instruction}
use Rattle.rpg_program.specs.declared.operation.Instruction.TheVariants.{Act, Except, Branch, Call, Return}
use Rattle.rpg_program.specs.declared.operation.Operand.{Operand}
use Rattle.rpg_program.specs.declared.operation.Operator.TheVariants as operators
use Rattle.rpg_program.specs.declared.operation.Shows.{Shows}
use Rattle.rpg_program.specs.declared.operation.Side.TheVariants as sides
use Rattle.rpg_object_format.specs.Format.{byte, two_bytes, pair, row}
use Rattle.rpg_program.specs.Kept.{IsIndexRow, IsInstructionRow, IsOptionalRow}
use Rattle.rpg_object_format.specs.declared.operation.Numbers.{Numbers}
use Rattle.rpg_object_format.specs.declared.operation.Opcode.{Opcode}
use Rattle.rpg_object_format.specs.Indicators.{shows_format}
use Rattle.rpg_object_format.specs.Instructions.{action_numbers, instruction, numbers_format, numbers_of, numbers_text, unused_shows, used_numbers}
use Rattle.rpg_object_format.specs.Operands.{operand, operand_or_none, unused_operand}
use Rattle.rpg_object_format.specs.Shapes.{row_where}

-- ---- an action by its columns

abbrev pub of_columns : Opcode → Bool → Operand ℕ → Operand ℕ → Operand ℕ → Shows → Numbers
of_columns o half a b r s = record { operation = o; half = half; factor1 = a; factor2 = b; result = r; shows = s; target = 0; negations = 0 }

-- an action has neither a target nor N bits
pub by_columns : (a : Action (Operand ℕ)) → let n = action_numbers a in of_columns n.operation n.half n.factor1 n.factor2 n.result n.shows ≡ action_numbers a
by_columns (actions.Compute f half a b r s) = refl
by_columns (actions.Divide half a b r s) = refl
by_columns (actions.Assign is_negated half b r s) = refl
by_columns (actions.TakeRemainder r s) = refl
by_columns (actions.CrossFoot half b r s) = refl
by_columns (actions.Compare a b s) = refl
by_columns (actions.LookUp a b r s) = refl
by_columns (actions.Move side b r) = refl
by_columns (actions.SetIndicators is_on s) = refl

-- ---- indexes that fit their number

pub record AreIndexes (n : Numbers) : Type 0 where
  pub factor1 : IsIndexRow n.factor1.index
  pub factor2 : IsIndexRow n.factor2.index
  pub result : IsIndexRow n.result.index

optional_index : (r : Option (Operand ℕ)) → IsOptionalRow r → IsIndexRow (operand_or_none r).index
optional_index None h = tt
optional_index (Some o) h = (h.row o refl).index

pub indexes_fit : (i : Instruction ℕ) → IsInstructionRow i → AreIndexes (numbers_of i)
indexes_fit (Act (actions.Compute f half a b r s)) h = record { factor1 = h.0.index; factor2 = h.1.index; result = h.2.index }
indexes_fit (Act (actions.Divide half a b r s)) h = record { factor1 = h.0.index; factor2 = h.1.index; result = h.2.index }
indexes_fit (Act (actions.Assign is_negated half b r s)) h = record { factor1 = tt; factor2 = h.0.index; result = h.1.index }
indexes_fit (Act (actions.TakeRemainder r s)) h = record { factor1 = tt; factor2 = tt; result = h.0.index }
indexes_fit (Act (actions.CrossFoot half b r s)) h = record { factor1 = tt; factor2 = h.0.index; result = h.1.index }
indexes_fit (Act (actions.Compare a b s)) h = record { factor1 = h.0.index; factor2 = h.1.index; result = tt }
indexes_fit (Act (actions.LookUp a b r s)) h = record { factor1 = h.0.index; factor2 = h.1.index; result = optional_index r h.2 }
indexes_fit (Act (actions.Move side b r)) h = record { factor1 = tt; factor2 = h.0.index; result = h.1.index }
indexes_fit (Act (actions.SetIndicators is_on s)) h = record { factor1 = tt; factor2 = tt; result = tt }
indexes_fit Except h = record { factor1 = tt; factor2 = tt; result = tt }
indexes_fit (Branch is_taken cs target) h = record { factor1 = tt; factor2 = tt; result = tt }
indexes_fit (Call s) h = record { factor1 = tt; factor2 = tt; result = tt }
indexes_fit (Return s) h = record { factor1 = tt; factor2 = tt; result = tt }

-- ---- twenty bytes

pub instruction_text : (i : Instruction ℕ) → numbers_text (numbers_of i) ≡ instruction.spelling i
unfolding instruction numbers_format used_numbers unused_shows unused_operand operand shows_format row_where byte two_bytes pair row
instruction_text (Act (actions.Compute operators.Add half a b r s)) = refl
instruction_text (Act (actions.Compute operators.Subtract half a b r s)) = refl
instruction_text (Act (actions.Compute operators.Multiply half a b r s)) = refl
instruction_text (Act (actions.Divide half a b r s)) = refl
instruction_text (Act (actions.Assign true half b r s)) = refl
instruction_text (Act (actions.Assign false half b r s)) = refl
instruction_text (Act (actions.TakeRemainder r s)) = refl
instruction_text (Act (actions.CrossFoot half b r s)) = refl
instruction_text (Act (actions.Compare a b s)) = refl
instruction_text (Act (actions.LookUp a b r s)) = refl
instruction_text (Act (actions.Move sides.Right b r)) = refl
instruction_text (Act (actions.Move sides.Left b r)) = refl
instruction_text (Act (actions.SetIndicators true s)) = refl
instruction_text (Act (actions.SetIndicators false s)) = refl
instruction_text Except = refl
instruction_text (Branch true cs target) = refl
instruction_text (Branch false cs target) = refl
instruction_text (Call s) = refl
instruction_text (Return s) = refl
