use Rattle.rpg_decimal.proofs.LawLemmas.{right_places, left_places, right_digits, left_digits}
use Rattle.rpg_decimal.proofs.laws.moves_go_by_places.Goals as goal

pub returns-clause-right : goal.returns-clause-right
returns-clause-right c = right_places

pub returns-clause-left : goal.returns-clause-left
returns-clause-left c = left_places

pub returns-clause-right_digits : goal.returns-clause-right_digits
returns-clause-right_digits c = right_digits

pub returns-clause-left_digits : goal.returns-clause-left_digits
returns-clause-left_digits c = left_digits
