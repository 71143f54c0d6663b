use Rattle.rpg_cycle.proofs.Unneeded.{primary_unneeded, secondary_unneeded}
use Rattle.rpg_cycle.proofs.laws.unneeded_records_are_ignored.Goals as goal

pub returns-clause-primary : goal.returns-clause-primary
returns-clause-primary c = λ earlier config i now next b e d out. primary_unneeded c.args.program.now earlier config i now next b e d out c.program-program.ensures.program

pub returns-clause-secondary : goal.returns-clause-secondary
returns-clause-secondary c = λ earlier config i a now next e d out. secondary_unneeded c.args.program.now earlier config i a now next e d out c.program-program.ensures.program
