use Rattle.rpg_meaning.proofs.Operations.Done.{compares, computes, divides, leads, looks_up, moves, moves_left, sets}
use Rattle.rpg_meaning.proofs.operation_laws.operations_do.Goals as goal

pub returns-clause-computes : goal.returns-clause-computes
returns-clause-computes c = computes

pub returns-clause-divides : goal.returns-clause-divides
returns-clause-divides c = divides

pub returns-clause-moves : goal.returns-clause-moves
returns-clause-moves c = moves

pub returns-clause-moves_left : goal.returns-clause-moves_left
returns-clause-moves_left c = moves_left

pub returns-clause-compares : goal.returns-clause-compares
returns-clause-compares c = compares

pub returns-clause-sets : goal.returns-clause-sets
returns-clause-sets c = sets

pub returns-clause-looks_up : goal.returns-clause-looks_up
returns-clause-looks_up c = looks_up

pub returns-clause-leads : goal.returns-clause-leads
returns-clause-leads c = leads
