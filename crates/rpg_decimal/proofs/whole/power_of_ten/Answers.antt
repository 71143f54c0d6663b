use Rattle.std.proofs.Common.{arith, refl}
use Rattle.rpg_decimal.specs.declared.whole.TheConstants.{POWERS_OF_TEN}
use Rattle.rpg_decimal.proofs.WholeLemmas.{ten_at, ten_le, ten_pos}
use Rattle.rpg_decimal.proofs.whole.power_of_ten.Goals as goal

pub returns-clause-value : goal.returns-clause-value
returns-clause-value c = ten_at POWERS_OF_TEN 0 c.from.result c.args.k refl (omega (arith, c.from.ensures)) (omega (arith, c.from.ensures))

pub returns-clause-positive : goal.returns-clause-positive
returns-clause-positive c = rw (returns-clause-value c) (ten_pos c.args.k)

pub returns-clause-bound : goal.returns-clause-bound
returns-clause-bound c = rw (returns-clause-value c) (ten_le c.args.k 18 (omega arith))
