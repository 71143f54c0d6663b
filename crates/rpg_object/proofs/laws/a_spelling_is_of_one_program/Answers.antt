use Rattle.rpg_object.proofs.ObjectLaws.{same_spelling}
use Rattle.rpg_object.proofs.PlainPrograms.{program_from}
use Rattle.rpg_object.proofs.laws.a_spelling_is_of_one_program.Goals as goal

pub returns : goal.returns
returns c = λ p q h k e. same_spelling p q (program_from p h) (program_from q k) e
