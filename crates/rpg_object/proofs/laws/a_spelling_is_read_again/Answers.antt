use Rattle.rpg_object.proofs.ObjectLaws.{all_again}
use Rattle.rpg_object.proofs.PlainPrograms.{program_from}
use Rattle.rpg_object.proofs.laws.a_spelling_is_read_again.Goals as goal

pub returns : goal.returns
returns c = λ p h. all_again p (program_from p h)
