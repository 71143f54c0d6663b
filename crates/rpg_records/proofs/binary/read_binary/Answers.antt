use Rattle.std.proofs.Common.{arith}
use Rattle.rpg_records.proofs.Bytes.{read_low, read_high}
use Rattle.rpg_records.proofs.binary.read_binary.Goals as goal

pub overflow_mul-size : goal.overflow_mul-size
overflow_mul-size c =
    let l = c.byte_value-size.ensures.fits in
    let e = c.power_of_256-sizes.ensures.value in
    let f = c.power_of_256-sizes.ensures.few in
    record { fits = omega (arith, l, e, f) }

pub overflow_sub-result : goal.overflow_sub-result
overflow_sub-result c = let l = c.byte_value-size.ensures.fits in let e = c.power_of_256-sizes.ensures.value in omega (arith, l, e)

pub returns-then-size-sizes : goal.returns-then-size-sizes
returns-then-size-sizes c =
    read_low c.args.bytes.now c.byte_value-size.result c.power_of_256-sizes.result c.byte_value-size.ensures.value c.power_of_256-sizes.ensures.value c.power_of_256-sizes.ensures.few c.if-size-sizes.true

pub returns-else-size-sizes : goal.returns-else-size-sizes
returns-else-size-sizes c =
    read_high c.args.bytes.now c.byte_value-size.result c.power_of_256-sizes.result c.byte_value-size.ensures.value c.power_of_256-sizes.ensures.value c.power_of_256-sizes.ensures.few c.if-size-sizes.false
