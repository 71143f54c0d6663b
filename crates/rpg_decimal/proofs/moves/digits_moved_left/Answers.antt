use Rattle.std.proofs.Common.{unsigned_abs, arith}
use Rattle.rpg_decimal.proofs.WholeLemmas.{ten_le}
use Rattle.rpg_decimal.proofs.MoveLemmas.{moved_left_size, moved_left-below}
use Rattle.rpg_decimal.proofs.moves.digits_moved_left.Goals as goal

pub overflow_mul-result : goal.overflow_mul-result
overflow_mul-result c =
    let s = c.args.source in
    let b = c.args.before in
    let ten = ten_le b.len 15 b.len_high in
    let below = moved_left-below s.len b.len (unsigned_abs s.value) 0 s.fits in
    rw (c.size_of.ensures.value, c.power_of_ten.ensures.value, c.power_of_ten-kept.ensures.value, c.min-moved.ensures) (record { fits = omega arith })

pub overflow_add-result : goal.overflow_add-result
overflow_add-result c =
    let s = c.args.source in
    let b = c.args.before in
    let ten = ten_le b.len 15 b.len_high in
    let below = moved_left-below s.len b.len (unsigned_abs s.value) (unsigned_abs b.value) s.fits in
    rw (c.size_of.ensures.value, c.size_of-2.ensures.value, c.power_of_ten.ensures.value, c.power_of_ten-kept.ensures.value, c.min-moved.ensures) (record { fits = omega arith })

pub returns-clause-value : goal.returns-clause-value
returns-clause-value c =
    let s = c.args.source in
    let b = c.args.before in
    rw (c.size_of.ensures.value, c.size_of-2.ensures.value, c.power_of_ten.ensures.value, c.power_of_ten-kept.ensures.value, c.min-moved.ensures)
    (moved_left_size s.len b.len (unsigned_abs s.value) (unsigned_abs b.value) s.fits)

pub returns-clause-bound : goal.returns-clause-bound
returns-clause-bound c =
    let s = c.args.source in
    let b = c.args.before in
    rw (c.size_of.ensures.value, c.size_of-2.ensures.value, c.power_of_ten.ensures.value, c.power_of_ten-kept.ensures.value, c.min-moved.ensures)
    (moved_left-below s.len b.len (unsigned_abs s.value) (unsigned_abs b.value) s.fits)

pub returns-clause-small : goal.returns-clause-small
returns-clause-small c =
    let ten = ten_le c.args.before.len 15 c.args.before.len_high in
    omega (arith, returns-clause-bound c)
