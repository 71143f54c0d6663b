use Rattle.std.proofs.Common.{◌^◌, unsigned_abs, rules, ap, ap₂, ◌∙◌, to_z-of_z, FitsSigned, w64, mul-pos, mul_comm}
use Rattle.std.specs.Int.{int_signum}
use Rattle.rpg_decimal_words.specs.Whole.{fit, rounded_quotient}
use Rattle.rpg_decimal.proofs.WholeLemmas.{back, back_64, ten_pos}
use Rattle.rpg_decimal.proofs.QuotientLemmas.{size_pos, dividend_is}
use Rattle.rpg_decimal.proofs.division.div.Goals as goal

pub rounded_quotient-quotient-requires-clause-divisor_low :
    goal.rounded_quotient-quotient-requires-clause-divisor_low
rounded_quotient-quotient-requires-clause-divisor_low c =
    let fits_b : FitsSigned w64 c.args.b.value = search rules in
    let size_is = rw (to_z-of_z fits_b) at c.widened_size.ensures.value in
    rw size_is (mul-pos (size_pos c.args.b.value c.if-b-eq0.false) (ten_pos c.args.a.dec))

pub returns-clause-value : goal.returns-clause-value
returns-clause-value c =
    let a = c.args.a in
    let b = c.args.b in
    let t = c.args.target in
    let fits_a : FitsSigned w64 a.value = search rules in
    let fits_b : FitsSigned w64 b.value = search rules in
    let size_is = rw (to_z-of_z fits_b) at c.widened_size.ensures.value in
    let top_is = rw (to_z-of_z fits_a, to_z-of_z fits_b) at c.dividend-dividend.ensures.value in
    back_64 c.fit.type_inv ∙ c.fit.ensures.value
    ∙ ap (λ q. fit q t.len)
    (back c.rounded_quotient-quotient.type_inv ∙ c.rounded_quotient-quotient.ensures.value
    ∙ ap₂ (rounded_quotient t.half) (back c.dividend-dividend.type_inv ∙ top_is ∙ dividend_is a.value (int_signum b.value) b.dec t.dec)
    (size_is ∙ mul_comm (unsigned_abs b.value) (10 ^ a.dec)))
