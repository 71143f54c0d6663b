use Rattle.std.proofs.Common.{◌<◌, ◌^◌, unsigned_abs, arith, ◌∙◌, to_z-of_z}
use Rattle.rpg_decimal.proofs.WholeLemmas.{fit_same}
use Rattle.rpg_decimal.proofs.whole.fit_small.Goals as goal

pub returns-then-unsigned_abs-limit-clause-value : goal.returns-then-unsigned_abs-limit-clause-value
returns-then-unsigned_abs-limit-clause-value c =
    let n_is = to_z-of_z c.ranges.n in
    let size_is = rw n_is at c.unsigned_abs.ensures.value in
    let below : unsigned_abs c.args.n < 10 ^ c.args.len = omega (arith, c.if-unsigned_abs-limit.true, c.power_of_ten-limit.ensures.value) in
    n_is ∙ fit_same c.args.n c.args.len below
