use Rattle.rpg_object_format.proofs.InstructionTexts.{by_columns}
use Rattle.rpg_object_format.proofs.instruction.action_numbers.Goals as goal

pub returns : goal.returns
returns c = rw (c.operation_in.ensures, c.half_in.ensures, c.factor1_in.ensures, c.factor2_in.ensures, c.result_in.ensures, c.shows_in.ensures) (by_columns c.args.action)
