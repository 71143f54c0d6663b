use Rattle.std.proofs.Common.{ℕ, ◌<◌, ◌^◌, Some, length, unsigned_abs, sym, ap, ◌∙◌, subst, arith}
use Rattle.std.proofs.lemmas.Int.{ints}
use Rattle.rpg_decimal.proofs.WholeLemmas.{ten_le}
use Rattle.rpg_decimal.proofs.ZonedLemmas.{plus_back}
use Rattle.rpg_machine_inputs.proofs.Plain.{plain_fits, plain_spelled}
use Rattle.rpg_machine_inputs.specs.Digits.{ArePlainTo}
use Rattle.rpg_machine_inputs.proofs.digits.read_number.Goals as goal

pub overflow_cast-result : goal.overflow_cast-result
overflow_cast-result c =
    let s = c.args.text.now in
    let fits = plain_fits s c.number_in_front-spot.result.0 c.number_in_front-spot.result.1 c.number_in_front-spot.ensures in
    let ten = ten_le c.number_in_front-spot.result.0 15 (omega arith) in
    omega (arith, ints, fits, ten)

pub returns-then-spot-text-clause-fits : goal.returns-then-spot-text-clause-fits
returns-then-spot-text-clause-fits c =
    let s = c.args.text.now in
    let n = c.number_in_front-spot.result.1 in
    let whole = subst (λ (k : ℕ). ArePlainTo s k n) c.if-spot-text.true c.number_in_front-spot.ensures in
    let fits = plain_fits s (length s) n whole in
    let ten = ten_le (length s) 15 c.requires.high in
    subst (λ z. unsigned_abs z < 10 ^ length s) (sym (plus_back n (omega (arith, fits, ten)))) fits

pub returns-then-spot-text-clause-number : goal.returns-then-spot-text-clause-number
returns-then-spot-text-clause-number c =
    let s = c.args.text.now in
    let n = c.number_in_front-spot.result.1 in
    let whole = subst (λ (k : ℕ). ArePlainTo s k n) c.if-spot-text.true c.number_in_front-spot.ensures in
    let fits = plain_fits s (length s) n whole in
    let ten = ten_le (length s) 15 c.requires.high in
    ap Some (plus_back n (omega (arith, fits, ten))) ∙ plain_spelled s n c.requires.low whole
