use Rattle.std.proofs.Common.{refl, arith}
use Rattle.rpg_machine_inputs.proofs.Plain.{digits_are, four_are, zero_halves}
use Rattle.rpg_machine_inputs.proofs.digits.number_of_four.Goals as goal

pub overflow_add-word-4 : goal.overflow_add-word-4
overflow_add-word-4 c =
    let h = zero_halves c.from.result c.from-2.result c.from-3.result c.from-4.result _ (omega arith) (omega arith) (omega arith) (omega arith) refl c.if-word-ne-ZEROS.false in
    record { fits = omega (arith, h.high_a, h.high_b, h.high_c, h.high_d) }

pub overflow_mul-pairs : goal.overflow_mul-pairs
overflow_mul-pairs c =
    let h = zero_halves c.from.result c.from-2.result c.from-3.result c.from-4.result _ (omega arith) (omega arith) (omega arith) (omega arith) refl c.if-word-ne-ZEROS.false in
    record { fits = omega (arith, h.high_a, h.high_b, h.high_c, h.high_d) }

pub overflow_add-pairs : goal.overflow_add-pairs
overflow_add-pairs c =
    let h = zero_halves c.from.result c.from-2.result c.from-3.result c.from-4.result _ (omega arith) (omega arith) (omega arith) (omega arith) refl c.if-word-ne-ZEROS.false in
    record { fits = omega (arith, h.high_a, h.high_b, h.high_c, h.high_d) }

pub returns : goal.returns
returns c =
    let h = zero_halves c.from.result c.from-2.result c.from-3.result c.from-4.result _ (omega arith) (omega arith) (omega arith) (omega arith) refl c.if-word-ne-ZEROS.false in
    let g = digits_are c.from.result c.from-2.result c.from-3.result c.from-4.result _ h refl c.if-word-ne-ZEROS-2.false in
    four_are c.args.a c.args.b c.args.c c.args.d c.from.result c.from-2.result c.from-3.result c.from-4.result _ _ _ _
    c.from.ensures c.from-2.ensures c.from-3.ensures c.from-4.ensures h g refl refl refl c.from-5.ensures
