use Rattle.rpg_meaning.proofs.Jobs.Meant.{has_start, runs_are_meant}
use Rattle.rpg_meaning.proofs.job_laws.runs_are_those_of_cards.Goals as goal

pub returns-clause-runs : goal.returns-clause-runs
returns-clause-runs c = λ cards allowance date source day. runs_are_meant cards allowance day.0 date source.program source.accepted source.filled day.1

pub returns-clause-start : goal.returns-clause-start
returns-clause-start c = has_start
