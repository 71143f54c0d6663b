use Rattle.std.proofs.Common.{ℕ, ◌+◌, ◌*◌, ◌<◌, ◌^◌, Some, length, slice_index, unsigned_abs, sym, ap, ◌∙◌, subst, arith}
use Rattle.std.proofs.lemmas.Int.{ints}
use Rattle.rpg_decimal.proofs.WholeLemmas.{ten_le}
use Rattle.rpg_decimal.proofs.ZonedLemmas.{minus_back}
use Rattle.rpg_machine_inputs.proofs.Plain.{minus_fits, minus_size, minus_spelled, plain_fits}
use Rattle.rpg_machine_inputs.specs.Digits.{IsMinusDigit}
use Rattle.rpg_machine_inputs.proofs.digits.read_rest.Goals as goal

pub overflow_mul-whole : goal.overflow_mul-whole
overflow_mul-whole c =
    let fits = plain_fits c.args.text.now c.args.spot c.args.size c.requires.front in
    let ten = ten_le c.args.spot 14 (omega arith) in
    record { fits = omega (arith, fits, ten) }

pub overflow_add-whole : goal.overflow_add-whole
overflow_add-whole c =
    let s = c.args.text.now in
    let sign = subst (λ (d : ℕ). IsMinusDigit (slice_index s c.args.spot) d) (sym c.from.ensures) c.in-Some.ensures in
    let fits = minus_fits s c.args.spot c.args.size c.from.result c.if-spot-text.true c.requires.front sign in
    let ten = ten_le (length s) 15 c.requires.high in
    record { fits = omega (arith, fits, ten) }

pub overflow_cast-result : goal.overflow_cast-result
overflow_cast-result c =
    let s = c.args.text.now in
    let sign = subst (λ (d : ℕ). IsMinusDigit (slice_index s c.args.spot) d) (sym c.from.ensures) c.in-Some.ensures in
    let fits = minus_fits s c.args.spot c.args.size c.from.result c.if-spot-text.true c.requires.front sign in
    let ten = ten_le (length s) 15 c.requires.high in
    omega (arith, ints, fits, ten)

pub overflow_sub-result : goal.overflow_sub-result
overflow_sub-result c =
    let s = c.args.text.now in
    let sign = subst (λ (d : ℕ). IsMinusDigit (slice_index s c.args.spot) d) (sym c.from.ensures) c.in-Some.ensures in
    let fits = minus_fits s c.args.spot c.args.size c.from.result c.if-spot-text.true c.requires.front sign in
    let ten = ten_le (length s) 15 c.requires.high in
    omega (arith, ints, fits, ten)

pub returns-in-Some-clause-fits : goal.returns-in-Some-clause-fits
returns-in-Some-clause-fits c =
    let s = c.args.text.now in
    let n = c.args.size * 10 + c.from.result in
    let sign = subst (λ (d : ℕ). IsMinusDigit (slice_index s c.args.spot) d) (sym c.from.ensures) c.in-Some.ensures in
    let fits = minus_fits s c.args.spot c.args.size c.from.result c.if-spot-text.true c.requires.front sign in
    let ten = ten_le (length s) 15 c.requires.high in
    let size = ap unsigned_abs (minus_back n (omega (arith, fits, ten))) ∙ minus_size n in
    subst (λ (k : ℕ). k < 10 ^ length s) (sym size) fits

pub returns-in-Some-clause-number : goal.returns-in-Some-clause-number
returns-in-Some-clause-number c =
    let s = c.args.text.now in
    let n = c.args.size * 10 + c.from.result in
    let sign = subst (λ (d : ℕ). IsMinusDigit (slice_index s c.args.spot) d) (sym c.from.ensures) c.in-Some.ensures in
    let fits = minus_fits s c.args.spot c.args.size c.from.result c.if-spot-text.true c.requires.front sign in
    let ten = ten_le (length s) 15 c.requires.high in
    ap Some (minus_back n (omega (arith, fits, ten))) ∙ minus_spelled s c.args.spot c.args.size c.from.result c.if-spot-text.true c.requires.front sign
