use Rattle.std.proofs.Common.{◌≡◌, ◌+◌, ◌-◌, unsigned_abs, arith, rules, ap, ◌∙◌, to_z, of_z, to_z-of_z, subst, sym, FitsSigned, w64, mul-pos, ℕ, false}
use Rattle.std.specs.Int.{w128}
use Rattle.rpg_decimal.specs.Num.{value_of}
use Rattle.rpg_decimal_words.specs.Fraction.{with_decimals, rest_of, IsSameValue, aligned_number}
use Rattle.rpg_decimal.proofs.WholeLemmas.{back, ten_pos}
use Rattle.rpg_decimal.proofs.QuotientLemmas.{size_pos, rest_value, rest_exact, rest_below}
use Rattle.rpg_decimal.proofs.division.remainder.Goals as goal

pub nonzero_rem-dividend : goal.nonzero_rem-dividend
nonzero_rem-dividend c =
    let fits_b : FitsSigned w64 c.args.b.value = search rules in
    rw (rw (to_z-of_z fits_b) at c.widened_size-divisor.ensures.value)
    (mul-pos (size_pos c.args.b.value c.if-b-eq0.false) (ten_pos (c.max-scale.result - (c.args.b.dec + c.args.dec))))

pub invariant_of-result-2 : goal.invariant_of-result-2
invariant_of-result-2 c =
    let a = c.args.a in
    let b = c.args.b in
    let fits_a : FitsSigned w64 a.value = search rules in
    let fits_b : FitsSigned w64 b.value = search rules in
    let size_is = rw (rw (to_z-of_z fits_a) at c.widened_size-dividend.ensures.value, rw (to_z-of_z fits_b) at c.widened_size-divisor.ensures.value) at c.with_sign_of.ensures.bound in
    record {
      bound = rw (back c.with_sign_of.type_inv, size_is)
          (rest_below (unsigned_abs a.value) (unsigned_abs b.value) a.dec (b.dec + c.args.dec) c.max-scale.result a.value_in (size_pos b.value c.if-b-eq0.false) b.value_in c.max-scale.ensures);
    }

pub returns-clause-value : goal.returns-clause-value
returns-clause-value c =
    let a = c.args.a in
    let b = c.args.b in
    let r = c.max-scale.result in
    let fits_a : FitsSigned w64 a.value = search rules in
    let fits_b : FitsSigned w64 b.value = search rules in
    let sign_is : to_z w128 (of_z w128 c.from.result) ≡ a.value = back c.from.type_inv ∙ c.from.ensures ∙ to_z-of_z fits_a in
    let rest_is = rw (sign_is, rw (to_z-of_z fits_a) at c.widened_size-dividend.ensures.value, rw (to_z-of_z fits_b) at c.widened_size-divisor.ensures.value) at c.with_sign_of.ensures.value in
    back c.with_sign_of.type_inv ∙ rest_is
    ∙ rest_value a.value b.value a.dec b.dec c.args.dec r (size_pos b.value c.if-b-eq0.false) (omega (arith, c.max-scale.ensures)) (omega (arith, c.max-scale.ensures))
    ∙ ap (λ (k : ℕ). aligned_number false k (rest_of (value_of a) (value_of b) c.args.dec)) c.max-scale.ensures

pub returns-clause-exact : goal.returns-clause-exact
returns-clause-exact c =
    let a = c.args.a in
    let b = c.args.b in
    let r = c.max-scale.result in
    let fits_a : FitsSigned w64 a.value = search rules in
    let fits_b : FitsSigned w64 b.value = search rules in
    let sign_is : to_z w128 (of_z w128 c.from.result) ≡ a.value = back c.from.type_inv ∙ c.from.ensures ∙ to_z-of_z fits_a in
    let rest_is = rw (sign_is, rw (to_z-of_z fits_a) at c.widened_size-dividend.ensures.value, rw (to_z-of_z fits_b) at c.widened_size-divisor.ensures.value) at c.with_sign_of.ensures.value in
    subst (λ n. IsSameValue (with_decimals n r) (rest_of (value_of a) (value_of b) c.args.dec)) (sym (back c.with_sign_of.type_inv ∙ rest_is))
    (rest_exact a.value b.value a.dec b.dec c.args.dec r (size_pos b.value c.if-b-eq0.false) (omega (arith, c.max-scale.ensures)) (omega (arith, c.max-scale.ensures)))
