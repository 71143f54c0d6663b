use Rattle.rpg_decimal_words.specs.Fraction.{aligned_number}
use Rattle.rpg_decimal.proofs.LawLemmas.{right_fits, left_fits}
use Rattle.rpg_decimal.proofs.WholeLemmas.{fit-below}
use Rattle.rpg_decimal.proofs.laws.stored_numbers_fit.Goals as goal

pub returns-clause-stored : goal.returns-clause-stored
returns-clause-stored c = λ half dec len p. fit-below (aligned_number half dec p) len

pub returns-clause-right : goal.returns-clause-right
returns-clause-right c = right_fits

pub returns-clause-left : goal.returns-clause-left
returns-clause-left c = left_fits
