use Rattle.std.proofs.Common.{arith, rules, ap, ◌∙◌, unsigned_abs, FitsSigned, to_z-of_z, w64}
use Rattle.rpg_decimal.proofs.WholeLemmas.{ten_le}
use Rattle.rpg_decimal.proofs.moves.size_of.Goals as goal

pub returns-clause-bound : goal.returns-clause-bound
returns-clause-bound c =
    let f = c.args.figure in
    let fits : FitsSigned w64 f.value = search rules in
    let size_is = c.unsigned_abs.ensures.value ∙ ap unsigned_abs (to_z-of_z fits) in
    let ten = ten_le f.len 15 f.len_high in
    rw size_is (omega (arith, f.fits))
