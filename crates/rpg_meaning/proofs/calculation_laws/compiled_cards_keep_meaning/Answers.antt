use Rattle.rpg_meaning.proofs.Calculations.Accepted.{orderly_of}
use Rattle.rpg_meaning.proofs.Calculations.Runs.{meaning_kept}
use Rattle.rpg_meaning.proofs.Calculations.Sources.{meant_world, translates}
use Rattle.rpg_meaning.proofs.calculation_laws.compiled_cards_keep_meaning.Goals as goal
use Rattle.rpg_compile_program.specs.Program.{program_of}

pub returns-clause-meaning : goal.returns-clause-meaning
returns-clause-meaning c = λ cards allowance source. meaning_kept (orderly_of (program_of cards allowance) source.program source.accepted) (translates cards allowance source.filled)

pub returns-clause-worlds : goal.returns-clause-worlds
returns-clause-worlds c = meant_world
