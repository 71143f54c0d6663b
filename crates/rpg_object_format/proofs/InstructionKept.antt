-- What instructions keep, in plain words, and back.
use Rattle.std.proofs.Common.{◌≡◌, ℕ, ◌<◌, ◌^◌, Bool, true, false, Option, Some, None, Ok, refl, arith}
use Rattle.std.specs.Option.{ForSome}
use Rattle.rpg_program.specs.declared.condition.Conditions.{Conditions}
use Rattle.rpg_program.specs.declared.operation.Action.TheVariants as actions
use Rattle.rpg_program.specs.declared.operation.Instruction.{Instruction}
use Rattle.rpg_program.specs.declared.operation.Instruction.TheVariants.{Act, Except, Branch, Call, Return}
use Rattle.rpg_program.specs.declared.operation.Operand.{Operand}
use Rattle.rpg_program.specs.declared.operation.Operator.TheVariants as operators
use Rattle.rpg_program.specs.declared.operation.Shows.{Shows}
use Rattle.rpg_program.specs.declared.operation.Side.TheVariants as sides
use Rattle.rpg_object_format.specs.Format.{byte, pair, row, two_bytes}
use Rattle.rpg_program.specs.Kept.{AreConditions, AreIndicators, IsAnOperand, IsInstructionRow, IsOperandRow, IsOptionalRow, IsTwoBytes}
use Rattle.rpg_object_format.specs.declared.operation.Columns.{Columns}
use Rattle.rpg_object_format.specs.declared.operation.Numbers.{Numbers}
use Rattle.rpg_object_format.specs.declared.operation.Opcode.{Opcode}
use Rattle.rpg_object_format.specs.declared.operation.Opcode.TheVariants as op
use Rattle.rpg_object_format.specs.Indicators.{indicators_of, negations_of}
use Rattle.rpg_object_format.specs.Instructions.{arithmetic, assignment, bare, branch_columns, call, comparison, half_column, indicators_column, instruction, move, negations_column, no_columns, no_shows, numbers_format, operand_column, operation_number, operation_of, remainder, search, setting, target_column, unused_shows, used_columns, used_numbers}
use Rattle.rpg_object_format.specs.Operands.{no_operand, operand_or_none, unused_operand}
use Rattle.rpg_object_format.specs.Shapes.{row_where}
use Rattle.rpg_object_format.proofs.Choices.{flag_from, some_is}
use Rattle.rpg_object_format.proofs.IndicatorsKept.{are_conditions, indicators_in, negations_hold, shows_from, shows_kept}
use Rattle.rpg_object_format.proofs.OperandLaws.{no_operand_row, operand_from, operand_kept}

-- ---- what an operation has

-- an optional operand of a search keeps what its numbers do
optional_kept : (r : Option (Operand ℕ)) → ForSome r IsAnOperand → IsOperandRow (operand_or_none r) → IsOptionalRow r
optional_kept None there h = record { row = λ o e. absurd (let k = e in cc); there = there }
optional_kept (Some o) there h = record { row = λ p e. rw (← some_is o p e) h; there = there }

pub instruction_kept : (i : Instruction ℕ) → instruction.Holds i → IsInstructionRow i
unfolding instruction numbers_format used_numbers row_where row pair two_bytes
instruction_kept (Act (actions.Compute operators.Add half a b r s)) h = (operand_kept a h.1.1.1.0, operand_kept b h.1.1.1.1.0, operand_kept r h.1.1.1.1.1.0, shows_kept s h.1.1.1.1.1.1.0)
instruction_kept (Act (actions.Compute operators.Subtract half a b r s)) h = (operand_kept a h.1.1.1.0, operand_kept b h.1.1.1.1.0, operand_kept r h.1.1.1.1.1.0, shows_kept s h.1.1.1.1.1.1.0)
instruction_kept (Act (actions.Compute operators.Multiply half a b r s)) h = (operand_kept a h.1.1.1.0, operand_kept b h.1.1.1.1.0, operand_kept r h.1.1.1.1.1.0, shows_kept s h.1.1.1.1.1.1.0)
instruction_kept (Act (actions.Divide half a b r s)) h = (operand_kept a h.1.1.1.0, operand_kept b h.1.1.1.1.0, operand_kept r h.1.1.1.1.1.0, shows_kept s h.1.1.1.1.1.1.0)
instruction_kept (Act (actions.Assign true half b r s)) h = (operand_kept b h.1.1.1.1.0, operand_kept r h.1.1.1.1.1.0, shows_kept s h.1.1.1.1.1.1.0)
instruction_kept (Act (actions.Assign false half b r s)) h = (operand_kept b h.1.1.1.1.0, operand_kept r h.1.1.1.1.1.0, shows_kept s h.1.1.1.1.1.1.0)
instruction_kept (Act (actions.TakeRemainder r s)) h = (operand_kept r h.1.1.1.1.1.0, shows_kept s h.1.1.1.1.1.1.0)
instruction_kept (Act (actions.CrossFoot half b r s)) h = (operand_kept b h.1.1.1.1.0, operand_kept r h.1.1.1.1.1.0, shows_kept s h.1.1.1.1.1.1.0)
instruction_kept (Act (actions.Compare a b s)) h = (operand_kept a h.1.1.1.0, operand_kept b h.1.1.1.1.0, shows_kept s h.1.1.1.1.1.1.0)
instruction_kept (Act (actions.LookUp a b r s)) h = (operand_kept a h.1.1.1.0, operand_kept b h.1.1.1.1.0, optional_kept r h.0 (operand_kept (operand_or_none r) h.1.1.1.1.1.0), shows_kept s h.1.1.1.1.1.1.0)
instruction_kept (Act (actions.Move sides.Right b r)) h = (operand_kept b h.1.1.1.1.0, operand_kept r h.1.1.1.1.1.0)
instruction_kept (Act (actions.Move sides.Left b r)) h = (operand_kept b h.1.1.1.1.0, operand_kept r h.1.1.1.1.1.0)
instruction_kept (Act (actions.SetIndicators true s)) h = shows_kept s h.1.1.1.1.1.1.0
instruction_kept (Act (actions.SetIndicators false s)) h = shows_kept s h.1.1.1.1.1.1.0
instruction_kept Except h = tt
instruction_kept (Branch true cs target) h = (are_conditions cs (shows_kept (indicators_of cs) h.1.1.1.1.1.1.0), h.1.1.1.1.1.1.1.0.1)
instruction_kept (Branch false cs target) h = (are_conditions cs (shows_kept (indicators_of cs) h.1.1.1.1.1.1.0), h.1.1.1.1.1.1.1.0.1)
instruction_kept (Call s) h = h.1.1.1.1.1.1.1.0.1
instruction_kept (Return s) h = h.1.1.1.1.1.1.1.0.1

-- ---- and back

-- what columns hold
record HoldColumns (c : Columns) (n : Numbers) : Type 0 where
  half : (half_column c).Holds n.half
  factor1 : (operand_column c.factor1).Holds n.factor1
  factor2 : (operand_column c.factor2).Holds n.factor2
  result : (operand_column c.result).Holds n.result
  indicators : (indicators_column c).Holds n.shows
  target : (target_column c).Holds n.target
  negations : (negations_column c n.shows).Holds n.negations

no_half : (half_column move).Holds false
unfolding row_where byte
no_half = (refl, (refl, omega arith))

no_operand_there : (operand_column false).Holds no_operand
unfolding row_where unused_operand row pair two_bytes
no_operand_there = (refl, ((refl, omega arith), (refl, omega arith)))

no_indicators : (indicators_column move).Holds no_shows
unfolding row_where unused_shows row pair byte
no_indicators = (refl, ((refl, omega arith), ((refl, omega arith), (refl, omega arith))))

no_target : (target_column move).Holds 0
unfolding row_where two_bytes
no_target = (refl, (refl, omega arith))

no_negations : (s : Shows) → (negations_column move s).Holds 0
unfolding row_where byte
no_negations s = (refl, (refl, omega arith))

half_there : (b : Bool) → (half_column arithmetic).Holds b
unfolding byte
half_there b = flag_from b

operand_used : (o : Operand ℕ) → IsOperandRow o → (operand_column true).Holds o
operand_used o h = operand_from o h

indicators_there : (s : Shows) → AreIndicators s → (indicators_column arithmetic).Holds s
indicators_there s h = shows_from s h

target_there : (target : ℕ) → IsTwoBytes target → (target_column branch_columns).Holds target
unfolding two_bytes
target_there target h = (refl, h)

calculates : (o : Opcode) (half : Bool) (a b r : Operand ℕ) (s : Shows) → IsOperandRow a → IsOperandRow b → IsOperandRow r → AreIndicators s → HoldColumns arithmetic (record (bare o) { half = half; factor1 = a; factor2 = b; result = r; shows = s })
calculates o half a b r s ha hb hr hs = record {
  half = half_there half;
  factor1 = operand_used a ha;
  factor2 = operand_used b hb;
  result = operand_used r hr;
  indicators = indicators_there s hs;
  target = no_target;
  negations = no_negations s;
}

assigns : (o : Opcode) (half : Bool) (b r : Operand ℕ) (s : Shows) → IsOperandRow b → IsOperandRow r → AreIndicators s → HoldColumns assignment (record (bare o) { half = half; factor2 = b; result = r; shows = s })
assigns o half b r s hb hr hs = record {
  half = half_there half;
  factor1 = no_operand_there;
  factor2 = operand_used b hb;
  result = operand_used r hr;
  indicators = indicators_there s hs;
  target = no_target;
  negations = no_negations s;
}

moves : (o : Opcode) (b r : Operand ℕ) → IsOperandRow b → IsOperandRow r → HoldColumns move (record (bare o) { factor2 = b; result = r })
moves o b r hb hr = record {
  half = no_half;
  factor1 = no_operand_there;
  factor2 = operand_used b hb;
  result = operand_used r hr;
  indicators = no_indicators;
  target = no_target;
  negations = no_negations no_shows;
}

remains : (r : Operand ℕ) (s : Shows) → IsOperandRow r → AreIndicators s → HoldColumns remainder (record (bare op.TakeRemainder) { result = r; shows = s })
remains r s hr hs = record {
  half = no_half;
  factor1 = no_operand_there;
  factor2 = no_operand_there;
  result = operand_used r hr;
  indicators = indicators_there s hs;
  target = no_target;
  negations = no_negations s;
}

compares : (a b : Operand ℕ) (s : Shows) → IsOperandRow a → IsOperandRow b → AreIndicators s → HoldColumns comparison (record (bare op.Compare) { factor1 = a; factor2 = b; shows = s })
compares a b s ha hb hs = record {
  half = no_half;
  factor1 = operand_used a ha;
  factor2 = operand_used b hb;
  result = no_operand_there;
  indicators = indicators_there s hs;
  target = no_target;
  negations = no_negations s;
}

optional_from : (r : Option (Operand ℕ)) → IsOptionalRow r → IsOperandRow (operand_or_none r)
optional_from None h = no_operand_row
optional_from (Some o) h = h.row o refl

searches : (a b : Operand ℕ) (r : Option (Operand ℕ)) (s : Shows) → IsOperandRow a → IsOperandRow b → IsOptionalRow r → AreIndicators s → HoldColumns search (record (bare op.LookUp) { factor1 = a; factor2 = b; result = operand_or_none r; shows = s })
searches a b r s ha hb hr hs = record {
  half = no_half;
  factor1 = operand_used a ha;
  factor2 = operand_used b hb;
  result = operand_used (operand_or_none r) (optional_from r hr);
  indicators = indicators_there s hs;
  target = no_target;
  negations = no_negations s;
}

sets : (o : Opcode) (s : Shows) → AreIndicators s → HoldColumns setting (record (bare o) { shows = s })
sets o s hs = record {
  half = no_half;
  factor1 = no_operand_there;
  factor2 = no_operand_there;
  result = no_operand_there;
  indicators = indicators_there s hs;
  target = no_target;
  negations = no_negations s;
}

negations_there : (cs : Conditions) → (negations_column branch_columns (indicators_of cs)).Holds (negations_of cs)
unfolding byte
negations_there cs = let n = negations_hold cs in (n.allowed_so, n.small)

branches : (o : Opcode) (cs : Conditions) (target : ℕ) → AreConditions cs → IsTwoBytes target → HoldColumns branch_columns (record (bare o) { shows = indicators_of cs; target = target; negations = negations_of cs })
branches o cs target hc ht = record {
  half = no_half;
  factor1 = no_operand_there;
  factor2 = no_operand_there;
  result = no_operand_there;
  indicators = indicators_there (indicators_of cs) (indicators_in cs hc);
  target = target_there target ht;
  negations = negations_there cs;
}

calls : (o : Opcode) (subroutine : ℕ) → IsTwoBytes subroutine → HoldColumns call (record (bare o) { target = subroutine })
calls o subroutine h = record {
  half = no_half;
  factor1 = no_operand_there;
  factor2 = no_operand_there;
  result = no_operand_there;
  indicators = no_indicators;
  target = target_there subroutine h;
  negations = no_negations no_shows;
}

excepts : HoldColumns no_columns (bare op.Except)
excepts = record {
  half = no_half;
  factor1 = no_operand_there;
  factor2 = no_operand_there;
  result = no_operand_there;
  indicators = no_indicators;
  target = no_target;
  negations = no_negations no_shows;
}

operation_read : (o : Opcode) → (operation_of (operation_number o) ≡ Ok o) × (operation_number o < 2 ^ 8)
operation_read op.Add = (refl, omega arith)
operation_read op.Subtract = (refl, omega arith)
operation_read op.Multiply = (refl, omega arith)
operation_read op.Divide = (refl, omega arith)
operation_read op.ZeroAdd = (refl, omega arith)
operation_read op.ZeroSubtract = (refl, omega arith)
operation_read op.TakeRemainder = (refl, omega arith)
operation_read op.Compare = (refl, omega arith)
operation_read op.MoveRight = (refl, omega arith)
operation_read op.MoveLeft = (refl, omega arith)
operation_read op.SetOn = (refl, omega arith)
operation_read op.SetOff = (refl, omega arith)
operation_read op.Jump = (refl, omega arith)
operation_read op.Skip = (refl, omega arith)
operation_read op.Call = (refl, omega arith)
operation_read op.Return = (refl, omega arith)
operation_read op.Except = (refl, omega arith)
operation_read op.CrossFoot = (refl, omega arith)
operation_read op.LookUp = (refl, omega arith)

numbers_from : (n : Numbers) → HoldColumns (used_columns n.operation) n → numbers_format.Holds n
unfolding numbers_format used_numbers row pair byte
numbers_from n h = (operation_read n.operation, (h.half, (h.factor1, (h.factor2, (h.result, (h.indicators, (h.target, h.negations)))))))

pub instruction_from : (i : Instruction ℕ) → IsInstructionRow i → instruction.Holds i
unfolding instruction row_where
instruction_from (Act (actions.Compute operators.Add half a b r s)) h = (tt, numbers_from _ (calculates op.Add half a b r s h.0 h.1 h.2 h.3))
instruction_from (Act (actions.Compute operators.Subtract half a b r s)) h = (tt, numbers_from _ (calculates op.Subtract half a b r s h.0 h.1 h.2 h.3))
instruction_from (Act (actions.Compute operators.Multiply half a b r s)) h = (tt, numbers_from _ (calculates op.Multiply half a b r s h.0 h.1 h.2 h.3))
instruction_from (Act (actions.Divide half a b r s)) h = (tt, numbers_from _ (calculates op.Divide half a b r s h.0 h.1 h.2 h.3))
instruction_from (Act (actions.Assign true half b r s)) h = (tt, numbers_from _ (assigns op.ZeroSubtract half b r s h.0 h.1 h.2))
instruction_from (Act (actions.Assign false half b r s)) h = (tt, numbers_from _ (assigns op.ZeroAdd half b r s h.0 h.1 h.2))
instruction_from (Act (actions.TakeRemainder r s)) h = (tt, numbers_from _ (remains r s h.0 h.1))
instruction_from (Act (actions.CrossFoot half b r s)) h = (tt, numbers_from _ (assigns op.CrossFoot half b r s h.0 h.1 h.2))
instruction_from (Act (actions.Compare a b s)) h = (tt, numbers_from _ (compares a b s h.0 h.1 h.2))
instruction_from (Act (actions.LookUp a b r s)) h = (h.2.there, numbers_from _ (searches a b r s h.0 h.1 h.2 h.3))
instruction_from (Act (actions.Move sides.Right b r)) h = (tt, numbers_from _ (moves op.MoveRight b r h.0 h.1))
instruction_from (Act (actions.Move sides.Left b r)) h = (tt, numbers_from _ (moves op.MoveLeft b r h.0 h.1))
instruction_from (Act (actions.SetIndicators true s)) h = (tt, numbers_from _ (sets op.SetOn s h))
instruction_from (Act (actions.SetIndicators false s)) h = (tt, numbers_from _ (sets op.SetOff s h))
instruction_from Except h = (tt, numbers_from _ excepts)
instruction_from (Branch true cs target) h = (tt, numbers_from _ (branches op.Jump cs target h.0 h.1))
instruction_from (Branch false cs target) h = (tt, numbers_from _ (branches op.Skip cs target h.0 h.1))
instruction_from (Call s) h = (tt, numbers_from _ (calls op.Call s h))
instruction_from (Return s) h = (tt, numbers_from _ (calls op.Return s h))
