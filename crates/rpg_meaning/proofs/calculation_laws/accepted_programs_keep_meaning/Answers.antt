use Rattle.rpg_meaning.proofs.Calculations.Accepted.{orderly_of}
use Rattle.rpg_meaning.proofs.Calculations.Runs.{meaning_kept}
use Rattle.rpg_meaning.proofs.calculation_laws.accepted_programs_keep_meaning.Goals as goal

pub returns : goal.returns
returns c = λ p program accepted source number is. meaning_kept (orderly_of p program accepted) is
