use Rattle.rpg_object_format.proofs.InstructionTexts.{indexes_fit, instruction_text}
use Rattle.rpg_object_format.proofs.instruction.put_instruction.Goals as goal

pub put_numbers-requires-clause-factor1 : goal.put_numbers-requires-clause-factor1
put_numbers-requires-clause-factor1 c = rw c.numbers_of.ensures (indexes_fit c.args.instruction c.requires).factor1

pub put_numbers-requires-clause-factor2 : goal.put_numbers-requires-clause-factor2
put_numbers-requires-clause-factor2 c = rw c.numbers_of.ensures (indexes_fit c.args.instruction c.requires).factor2

pub put_numbers-requires-clause-result : goal.put_numbers-requires-clause-result
put_numbers-requires-clause-result c = rw c.numbers_of.ensures (indexes_fit c.args.instruction c.requires).result

pub returns : goal.returns
returns c = rw (← instruction_text c.args.instruction, ← c.numbers_of.ensures) c.put_numbers.ensures
