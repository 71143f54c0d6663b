use Rattle.rpg_compile_program.proofs.Numbers.{numbers_rename}
use Rattle.rpg_compile_program.proofs.laws.numbers_are_a_renaming.Goals as goal

pub returns : goal.returns
returns c = numbers_rename
