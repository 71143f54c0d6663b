use Rattle.rpg_meaning.proofs.Calculations.NextCard.{numbers_theirs, numbers_up}
use Rattle.rpg_meaning.proofs.calculation_laws.numbers_are_of_cards.Goals as goal

pub returns-clause-theirs : goal.returns-clause-theirs
returns-clause-theirs c = numbers_theirs

pub returns-clause-up : goal.returns-clause-up
returns-clause-up c = numbers_up
