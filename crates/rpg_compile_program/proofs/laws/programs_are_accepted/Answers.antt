use Rattle.rpg_compile_program.proofs.Accepted.{accepted}
use Rattle.rpg_compile_program.proofs.laws.programs_are_accepted.Goals as goal

pub returns : goal.returns
returns c = accepted
