use Rattle.std.proofs.Common.{◌≡◌, ◌+◌, ℤ, ◌<◌, ◌≤◌, ◌^◌, ◌*◌, ◌*ℤ◌, unsigned_abs, arith, rules, ap, ap₂, ◌∙◌, to_z-of_z, FitsSigned, w64}
use Rattle.std.proofs.lemmas.Nat.{mul-le}
use Rattle.rpg_decimal_words.specs.Whole.{fit}
use Rattle.rpg_decimal.proofs.WholeLemmas.{aligned_same, back_64, stored-joined}
use Rattle.rpg_machine_operations.proofs.Aligned.{product_fits, product_is}
use Rattle.rpg_machine_operations.proofs.arithmetic.product_aligned.Goals as goal

factors_small : (x y u v : ℤ) → x ≡ u → y ≡ v → unsigned_abs u < 10 ^ 15 → unsigned_abs v < 10 ^ 15 → unsigned_abs x * unsigned_abs y < 10 ^ 33
factors_small x y u v ex ey hu hv =
    let small : unsigned_abs x * unsigned_abs y ≤ 10 ^ 15 * 10 ^ 15 = mul-le (unsigned_abs x) (unsigned_abs y) (10 ^ 15) (10 ^ 15) (rw ex (omega arith)) (rw ey (omega arith)) in
    omega arith

pub overflow_mul-product : goal.overflow_mul-product
overflow_mul-product c =
    let fits_a : FitsSigned w64 c.args.a.value = search rules in
    let fits_b : FitsSigned w64 c.args.b.value = search rules in
    product_fits c.from.result c.from-2.result c.from.type_inv c.from-2.type_inv
    (factors_small c.from.result c.from-2.result c.args.a.value c.args.b.value (c.from.ensures ∙ to_z-of_z fits_a) (c.from-2.ensures ∙ to_z-of_z fits_b) c.args.a.value_in c.args.b.value_in)

pub returns-clause-value : goal.returns-clause-value
returns-clause-value c =
    let a = c.args.a in
    let b = c.args.b in
    let t = c.args.target in
    let fits_a : FitsSigned w64 a.value = search rules in
    let fits_b : FitsSigned w64 b.value = search rules in
    let x_is : c.from.result ≡ a.value = c.from.ensures ∙ to_z-of_z fits_a in
    let y_is : c.from-2.result ≡ b.value = c.from-2.ensures ∙ to_z-of_z fits_b in
    let small = factors_small c.from.result c.from-2.result a.value b.value x_is y_is a.value_in b.value_in in
    let is = product_is c.from.result c.from-2.result c.from.type_inv c.from-2.type_inv small ∙ ap₂ (◌*ℤ◌) x_is y_is in
    back_64 c.fit.type_inv ∙ c.fit.ensures.value
    ∙ ap (λ n. fit n t.len) is
    ∙ ap (λ n. fit n t.len) (aligned_same t.half (a.value *ℤ b.value) (a.dec + b.dec) t.dec c.requires)
    ∙ stored-joined t.half t.dec t.len (a.value *ℤ b.value) a.dec b.dec
