use Rattle.std.proofs.Common.{refl, arith}
use Rattle.rpg_decimal.proofs.WholeLemmas.{ten_le}
use Rattle.rpg_machine_inputs.proofs.Plain.{four_below, four_plain, plain_fits}
use Rattle.rpg_machine_inputs.proofs.digits.number_by_fours.Goals as goal

pub overflow_mul-size : goal.overflow_mul-size
overflow_mul-size c =
    let fits = plain_fits c.args.text.now c.fours.spot c.fours.size c.fours.invariant in
    let ten = ten_le c.fours.spot 11 (omega arith) in
    record { fits = omega (arith, fits, ten) }

pub overflow_add-size : goal.overflow_add-size
overflow_add-size c =
    let fits = plain_fits c.args.text.now c.fours.spot c.fours.size c.fours.invariant in
    let ten = ten_le c.fours.spot 11 (omega arith) in
    let low = four_below _ _ _ _ c.in-Some.four c.in-Some.ensures in
    record { fits = omega (arith, fits, ten, low) }

pub fours-preserved : goal.fours-preserved
fours-preserved c =
    four_plain c.args.text.now c.fours.spot c.fours.size c.in-Some.four _ _ _ _ (omega arith) c.fours.invariant refl refl refl refl c.in-Some.ensures
