use Rattle.std.proofs.Common.{◌^◌, ◌<◌, ◌-◌, ◌*◌, arith, rules, unsigned_abs, length, FitsSigned, to_z-of_z, w64}
use Rattle.rpg_decimal.proofs.WholeLemmas.{ten_le}
use Rattle.rpg_records.proofs.digits.zoned_to_packed.Goals as goal

pub write_packed-requires-clause-fits : goal.write_packed-requires-clause-fits
write_packed-requires-clause-fits c =
    let room = ten_le (length c.args.digits.now) (2 * length c.args.bytes.now - 1) c.requires.room in
    let most = ten_le (length c.args.digits.now) 15 (omega (arith, c.requires.room, c.requires.high)) in
    let few : unsigned_abs c.in-Ok.n < 10 ^ length c.args.digits.now = c.in-Ok.ensures.fits in
    let fits : FitsSigned w64 c.in-Ok.n = search (rules, few, most) in
    rw (to_z-of_z fits) (omega (arith, few, room))
