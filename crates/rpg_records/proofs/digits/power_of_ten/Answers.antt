use Rattle.std.proofs.Common.{arith, refl}
use Rattle.rpg_records.specs.declared.digits.TheConstants.{POWERS_OF_TEN}
use Rattle.rpg_decimal.proofs.WholeLemmas.{ten_at, ten_le}
use Rattle.rpg_records.proofs.digits.power_of_ten.Goals as goal

pub returns-clause-value : goal.returns-clause-value
returns-clause-value c = ten_at POWERS_OF_TEN 0 c.from.result c.args.exponent refl (omega (arith, c.from.ensures)) (omega (arith, c.from.ensures))

pub returns-clause-few : goal.returns-clause-few
returns-clause-few c = rw (returns-clause-value c) (ten_le c.args.exponent 15 (omega arith))
