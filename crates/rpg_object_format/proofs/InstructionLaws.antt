-- The law of instructions.
use Rattle.std.proofs.Common.{◌≡◌, ℕ, Bool, true, false, Option, refl, ap, ◌∙◌}
use Rattle.rpg_program.specs.declared.condition.Conditions.{Conditions}
use Rattle.rpg_program.specs.declared.operation.Action.TheVariants as actions
use Rattle.rpg_program.specs.declared.operation.Instruction.{Instruction}
use Rattle.rpg_program.specs.declared.operation.Instruction.TheVariants.{Act, Except, Branch, Call, Return}
use Rattle.rpg_program.specs.declared.operation.Operand.{Operand}
use Rattle.rpg_program.specs.declared.operation.Operator.TheVariants as operators
use Rattle.rpg_program.specs.declared.operation.Shows.{Shows}
use Rattle.rpg_program.specs.declared.operation.Side.TheVariants as sides
use Rattle.rpg_object_format.specs.Format.{byte, pair, row}
use Rattle.rpg_object_format.specs.Numbers.{any_number, byte_where, yes_or_no}
use Rattle.rpg_object_format.proofs.Laws.{IsFormat, byte_law, pair_law, row_law}
use Rattle.rpg_object_format.proofs.Rules.{any_number_law, byte_where_law, choice_rule, yes_or_no_law}
use Rattle.rpg_object_format.specs.declared.operation.Columns.{Columns}
use Rattle.rpg_object_format.specs.declared.operation.Numbers.{Numbers}
use Rattle.rpg_object_format.specs.declared.operation.Opcode.{Opcode}
use Rattle.rpg_object_format.specs.declared.operation.Opcode.TheVariants as op
use Rattle.rpg_object_format.specs.Indicators.{are_negations, conditions_of, indicators_of, negations_of, shows_format}
use Rattle.rpg_object_format.specs.Instructions.{HasOneSpelling, instruction, instruction_of, no_shows, numbers_format, numbers_of, operation_number, operations, unused_shows, used_columns, used_numbers}
use Rattle.rpg_object_format.specs.Operands.{no_operand, operand, unused_operand}
use Rattle.rpg_object_format.specs.Shapes.{unused_byte, unused_number}
use Rattle.rpg_object_format.proofs.Choices.{passed}
use Rattle.rpg_object_format.proofs.IndicatorLaws.{conditions_back, indicators_there, negations_there, shows_law}
use Rattle.rpg_object_format.proofs.OperandLaws.{operand_again, operand_law, operand_there, optional_back, unused_operand_law}
use Rattle.rpg_object_format.proofs.ShapeLaws.{cleared, if_used, row_where_law, unused_byte_law, unused_number_law, where_used_law}

-- ---- the numbers of an instruction

unused_shows_law : IsFormat unused_shows
unfolding unused_shows
unused_shows_law = row_law _ _ _ (λ a h. refl) (λ x. refl) (pair_law _ _ unused_byte_law (λ plus. pair_law _ _ unused_byte_law (λ minus. unused_byte_law)))

columns_law : (c : Columns) → IsFormat (used_numbers c)
unfolding used_numbers
columns_law c =
    pair_law _ _ (where_used_law c.half yes_or_no false unused_byte yes_or_no_law unused_byte_law) (λ half.
    pair_law _ _ (where_used_law c.factor1 operand no_operand unused_operand operand_law unused_operand_law) (λ factor1.
    pair_law _ _ (where_used_law c.factor2 operand no_operand unused_operand operand_law unused_operand_law) (λ factor2.
    pair_law _ _ (where_used_law c.result operand no_operand unused_operand operand_law unused_operand_law) (λ res.
    pair_law _ _ (where_used_law c.indicators shows_format no_shows unused_shows shows_law unused_shows_law) (λ s.
    pair_law _ _ (where_used_law c.target any_number 0 unused_number any_number_law unused_number_law) (λ target.
    where_used_law c.negations (byte_where (are_negations s)) 0 unused_byte (byte_where_law (are_negations s)) unused_byte_law))))))

numbers_law : IsFormat numbers_format
unfolding numbers_format
numbers_law = row_law _ _ _ (λ a h. refl) (λ x. refl) (pair_law _ _ (byte_law _ _ (choice_rule operations operation_number)) (λ o. columns_law (used_columns o)))

-- the numbers that the operation uses, and nothing in the others
abbrev used_of : Columns → Numbers → Numbers
used_of c n = record {
  operation = n.operation;
  half = if_used c.half n.half false;
  factor1 = if_used c.factor1 n.factor1 no_operand;
  factor2 = if_used c.factor2 n.factor2 no_operand;
  result = if_used c.result n.result no_operand;
  shows = if_used c.indicators n.shows no_shows;
  target = if_used c.target n.target 0;
  negations = if_used c.negations n.negations 0;
}

abbrev clear : Numbers → Numbers
clear n = used_of (used_columns n.operation) n

-- what an operation doesn't use is nothing
clear_same : (n : Numbers) → numbers_format.Holds n → clear n ≡ n
unfolding numbers_format used_numbers row pair
clear_same n h =
    let c = used_columns n.operation in
    let half = cleared c.half yes_or_no false unused_byte n.half h.1.0 in
    let factor1 = cleared c.factor1 operand no_operand unused_operand n.factor1 h.1.1.0 in
    let factor2 = cleared c.factor2 operand no_operand unused_operand n.factor2 h.1.1.1.0 in
    let res = cleared c.result operand no_operand unused_operand n.result h.1.1.1.1.0 in
    let indicators = cleared c.indicators shows_format no_shows unused_shows n.shows h.1.1.1.1.1.0 in
    let target = cleared c.target any_number 0 unused_number n.target h.1.1.1.1.1.1.0 in
    let negations = cleared c.negations (byte_where (are_negations n.shows)) 0 unused_byte n.negations h.1.1.1.1.1.1.1 in
    ap (λ (b : Bool). record (clear n) { half = b }) half
    ∙ ap (λ (o : Operand ℕ). record (clear n) { half = n.half; factor1 = o }) factor1
    ∙ ap (λ (o : Operand ℕ). record (clear n) { half = n.half; factor1 = n.factor1; factor2 = o }) factor2
    ∙ ap (λ (o : Operand ℕ). record (clear n) { half = n.half; factor1 = n.factor1; factor2 = n.factor2; result = o }) res
    ∙ ap (λ (s : Shows). record n { shows = s; target = if_used c.target n.target 0; negations = if_used c.negations n.negations 0 }) indicators
    ∙ ap (λ (k : ℕ). record n { target = k; negations = if_used c.negations n.negations 0 }) target
    ∙ ap (λ (k : ℕ). record n { negations = k }) negations

-- N bits that the indicators allow
abbrev AllowsBits : Numbers → Type 0
AllowsBits n = (used_columns n.operation).negations ≡ true → are_negations n.shows n.negations ≡ true

bits_allowed : (n : Numbers) → numbers_format.Holds n → AllowsBits n
unfolding numbers_format used_numbers row pair byte
bits_allowed n h used = passed (are_negations n.shows) n.negations (rw used at h.1.1.1.1.1.1.1).0

module _ (half : Bool) (a b r : Operand ℕ) (s : Shows) (target bits : ℕ) where
  abbrev with_operation : Opcode → Numbers
  with_operation o = record { operation = o; half = half; factor1 = a; factor2 = b; result = r; shows = s; target = target; negations = bits }

  branch_again : (o : Opcode) → (are_negations s bits ≡ true) →
      record (clear (with_operation op.Jump)) { operation = o; shows = indicators_of (conditions_of s bits); negations = negations_of (conditions_of s bits) } ≡ record (clear (with_operation op.Jump)) { operation = o }
  branch_again o h =
      ap (λ (t : Shows). record (clear (with_operation op.Jump)) { operation = o; shows = t; negations = negations_of (conditions_of s bits) }) (indicators_there s bits)
      ∙ ap (λ (k : ℕ). record (clear (with_operation op.Jump)) { operation = o; negations = k }) (negations_there s bits h)

  -- an instruction of numbers has these numbers, but for what its operation doesn't use
  used_again : (o : Opcode) → AllowsBits (with_operation o) → numbers_of (instruction_of (with_operation o)) ≡ clear (with_operation o)
  used_again op.Add h = refl
  used_again op.Subtract h = refl
  used_again op.Multiply h = refl
  used_again op.Divide h = refl
  used_again op.ZeroAdd h = refl
  used_again op.ZeroSubtract h = refl
  used_again op.TakeRemainder h = refl
  used_again op.Compare h = refl
  used_again op.MoveRight h = refl
  used_again op.MoveLeft h = refl
  used_again op.SetOn h = refl
  used_again op.SetOff h = refl
  used_again op.Jump h = branch_again op.Jump (h refl)
  used_again op.Skip h = branch_again op.Skip (h refl)
  used_again op.Call h = refl
  used_again op.Return h = refl
  used_again op.Except h = refl
  used_again op.CrossFoot h = refl
  used_again op.LookUp h = ap (λ (o : Operand ℕ). record (clear (with_operation op.LookUp)) { result = o }) (operand_again r)

  one_spelling : (o : Opcode) → HasOneSpelling (instruction_of (with_operation o))
  one_spelling op.Add = tt
  one_spelling op.Subtract = tt
  one_spelling op.Multiply = tt
  one_spelling op.Divide = tt
  one_spelling op.ZeroAdd = tt
  one_spelling op.ZeroSubtract = tt
  one_spelling op.TakeRemainder = tt
  one_spelling op.Compare = tt
  one_spelling op.MoveRight = tt
  one_spelling op.MoveLeft = tt
  one_spelling op.SetOn = tt
  one_spelling op.SetOff = tt
  one_spelling op.Jump = tt
  one_spelling op.Skip = tt
  one_spelling op.Call = tt
  one_spelling op.Return = tt
  one_spelling op.Except = tt
  one_spelling op.CrossFoot = tt
  one_spelling op.LookUp = operand_there r

numbers_there : (n : Numbers) → numbers_format.Holds n → numbers_of (instruction_of n) ≡ n
numbers_there n h = used_again n.half n.factor1 n.factor2 n.result n.shows n.target n.negations n.operation (bits_allowed n h) ∙ clear_same n h

-- ---- instructions

instruction_back : (i : Instruction ℕ) → HasOneSpelling i → instruction_of (numbers_of i) ≡ i
instruction_back (Act (actions.Compute operators.Add half a b r s)) h = refl
instruction_back (Act (actions.Compute operators.Subtract half a b r s)) h = refl
instruction_back (Act (actions.Compute operators.Multiply half a b r s)) h = refl
instruction_back (Act (actions.Divide half a b r s)) h = refl
instruction_back (Act (actions.Assign true half b r s)) h = refl
instruction_back (Act (actions.Assign false half b r s)) h = refl
instruction_back (Act (actions.TakeRemainder r s)) h = refl
instruction_back (Act (actions.CrossFoot half b r s)) h = refl
instruction_back (Act (actions.Compare a b s)) h = refl
instruction_back (Act (actions.LookUp a b r s)) h = ap (λ (o : Option (Operand ℕ)). Act (actions.LookUp a b o s)) (optional_back r h)
instruction_back (Act (actions.Move sides.Right b r)) h = refl
instruction_back (Act (actions.Move sides.Left b r)) h = refl
instruction_back (Act (actions.SetIndicators true s)) h = refl
instruction_back (Act (actions.SetIndicators false s)) h = refl
instruction_back Except h = refl
instruction_back (Branch true cs target) h = ap (λ (ds : Conditions). Branch true ds target) (conditions_back cs)
instruction_back (Branch false cs target) h = ap (λ (ds : Conditions). Branch false ds target) (conditions_back cs)
instruction_back (Call s) h = refl
instruction_back (Return s) h = refl

pub instruction_law : IsFormat instruction
unfolding instruction
instruction_law = row_where_law _ _ _ _ numbers_there (λ n h. one_spelling n.half n.factor1 n.factor2 n.result n.shows n.target n.negations n.operation) instruction_back numbers_law
