use Rattle.std.proofs.Common.{◌≡◌, ◌-◌, ◌*◌, ◌^◌, unsigned_abs, arith, ◌∙◌, to_z, of_z, to_z-of_z}
use Rattle.std.specs.Int.{w128}
use Rattle.rpg_decimal.proofs.WholeLemmas.{back, back_64, aligned_up, aligned_down, stored-early, rounded-le, shifted-below, ten_pos, unsigned_abs-with_sign}
use Rattle.rpg_decimal.proofs.arithmetic.kept_by_shift.Goals as goal

pub align-requires-clause-result_in : goal.align-requires-clause-result_in
align-requires-clause-result_in c =
    let low_is : to_z w128 (of_z w128 c.from-lowest.result) ≡ c.fit.result = back c.from-lowest.type_inv ∙ c.from-lowest.ensures ∙ back_64 c.fit.type_inv in
    let shift = c.args.target.dec - c.args.from.value in
    let small = shifted-below (unsigned_abs c.fit.result) shift c.fit.ensures.fits (omega arith) in
    rw (low_is, aligned_up c.args.target.half c.fit.result c.args.from.value c.args.target.dec (omega arith), unsigned_abs-with_sign c.fit.result (unsigned_abs c.fit.result * 10 ^ shift)) (omega arith)

pub returns-then-from-target-clause-value : goal.returns-then-from-target-clause-value
returns-then-from-target-clause-value c =
    let low_is : to_z w128 (of_z w128 c.from-lowest.result) ≡ c.fit.result = back c.from-lowest.type_inv ∙ c.from-lowest.ensures ∙ back_64 c.fit.type_inv in
    let fit_is = rw (to_z-of_z c.ranges.n) at c.fit.ensures.value in
    back_64 c.fit-then-from-target.type_inv
    ∙ (rw (back c.align.type_inv, c.align.ensures, low_is, fit_is) at c.fit-then-from-target.ensures.value)
    ∙ stored-early c.args.target.half c.args.n c.args.from.value c.args.target.dec 15 c.args.target.len (omega arith) c.args.target.len_high

pub align-requires-2-clause-result_in : goal.align-requires-2-clause-result_in
align-requires-2-clause-result_in c =
    let less = rounded-le c.args.target.half c.args.n (10 ^ (c.args.from.value - c.args.target.dec)) (ten_pos (c.args.from.value - c.args.target.dec)) in
    rw (to_z-of_z c.ranges.n, aligned_down c.args.target.half c.args.n c.args.from.value c.args.target.dec (omega arith)) (omega arith)
