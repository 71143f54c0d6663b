use Rattle.std.proofs.Common.{◌-ℤ◌, arith, rules, ◌∙◌, to_z-of_z, FitsSigned, w64}
use Rattle.std.proofs.lemmas.Int.{ints}
use Rattle.rpg_decimal.proofs.WholeLemmas.{back_64}
use Rattle.rpg_decimal.proofs.SumLemmas.{like-difference}
use Rattle.rpg_decimal.proofs.arithmetic.sub.Goals as goal

pub returns-then-b-target-clause-value : goal.returns-then-b-target-clause-value
returns-then-b-target-clause-value c =
    let a = c.args.a in
    let b = c.args.b in
    let t = c.args.target in
    let fits_a : FitsSigned w64 a.value = search rules in
    let fits_b : FitsSigned w64 b.value = search rules in
    let fits : FitsSigned w64 (a.value -ℤ b.value) = omega (arith, ints, a.value_in, b.value_in) in
    back_64 c.fit_small.type_inv
    ∙ (rw (to_z-of_z fits_a, to_z-of_z fits_b, to_z-of_z fits) at c.fit_small.ensures.value)
    ∙ like-difference t.half t.len a.value b.value a.dec b.dec t.dec c.if-a-b.true c.if-b-target.true
