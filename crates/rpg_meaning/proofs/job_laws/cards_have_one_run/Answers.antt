use Rattle.rpg_meaning.proofs.Jobs.OneRun.{runs_are_one}
use Rattle.rpg_meaning.proofs.job_laws.cards_have_one_run.Goals as goal

pub returns : goal.returns
returns c = runs_are_one
