use Rattle.std.proofs.Common.{◌≡◌, ◌+◌, ◌*◌, true, slice_index, refl, sym, ap, ◌∙◌, subst, arith}
use Rattle.rpg_decimal.proofs.WholeLemmas.{ten_le}
use Rattle.rpg_decimal_words.specs.Zoned.{is_digit}
use Rattle.rpg_machine_inputs.proofs.Plain.{digit_is, is_digit_from, one_plain, plain_fits}
use Rattle.rpg_machine_inputs.specs.Digits.{ArePlainTo}
use Rattle.rpg_machine_inputs.proofs.digits.number_in_front.Goals as goal

pub overflow_mul-size : goal.overflow_mul-size
overflow_mul-size c =
    let fits = plain_fits c.args.text.now c.digits.spot c.digits.size c.digits.invariant in
    let ten = ten_le c.digits.spot 14 (omega arith) in
    record { fits = omega (arith, fits, ten) }

pub overflow_add-size : goal.overflow_add-size
overflow_add-size c =
    let fits = plain_fits c.args.text.now c.digits.spot c.digits.size c.digits.invariant in
    let ten = ten_le c.digits.spot 14 (omega arith) in
    record { fits = omega (arith, fits, ten) }

pub digits-preserved : goal.digits-preserved
digits-preserved c =
    let s = c.args.text.now in
    let i = c.digits.spot in
    let n = c.digits.size in
    let x = slice_index s i in
    let digit : is_digit x ≡ true = is_digit_from x c.if-not-is_ascii_digit.ensures.cases.0 c.if-not-is_ascii_digit.ensures.cases.1 in
    let value : n * 10 + c.from.result ≡ n * 10 + _ = ap (λ d. n * 10 + d) (c.from.ensures ∙ sym (digit_is x digit)) in
    subst (λ k. ArePlainTo s (i + 1) k) (sym value) (one_plain s i n x (omega arith) c.digits.invariant refl digit)
