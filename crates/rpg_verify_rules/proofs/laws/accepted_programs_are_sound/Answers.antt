use Rattle.rpg_verify_rules.proofs.Soundness.{sound}
use Rattle.rpg_verify_rules.proofs.laws.accepted_programs_are_sound.Goals as goal

pub returns : goal.returns
returns c = λ p h. sound p h
