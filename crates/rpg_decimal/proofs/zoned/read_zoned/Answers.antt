use Rattle.std.proofs.Common.{Some, length, ap, sym, ◌∙◌, arith}
use Rattle.std.proofs.lemmas.Int.{ints}
use Rattle.rpg_decimal.proofs.WholeLemmas.{ten_le}
use Rattle.rpg_decimal.proofs.ZonedLemmas.{number_none, number_some, numeric_from_valid, spelled-minus, spelled-plus, minus_back, plus_back, none_from_err}
use Rattle.rpg_decimal.proofs.zoned.read_zoned.Goals as goal

pub overflow_cast-result : goal.overflow_cast-result
overflow_cast-result c =
    let ten = ten_le (length c.args.text.now) 15 c.requires.high in
    let below = c.in_ok-size.ensures.fits in
    omega (arith, ints)

pub overflow_cast-result-2 : goal.overflow_cast-result-2
overflow_cast-result-2 c =
    let ten = ten_le (length c.args.text.now) 15 c.requires.high in
    let below = c.in_ok-size.ensures.fits in
    omega (arith, ints)

pub overflow_sub-result : goal.overflow_sub-result
overflow_sub-result c =
    let ten = ten_le (length c.args.text.now) 15 c.requires.high in
    let below = c.in_ok-size.ensures.fits in
    omega (arith, ints)

pub returns-in_err-size-clause-number : goal.returns-in_err-size-clause-number
returns-in_err-size-clause-number c =
    none_from_err c.from_residual.result c.from_residual.ensures.0 ∙ sym (number_none c.args.text.now c.in_err-size.field-0.0.spot c.in_err-size.ensures.bad)

pub returns-then-is_minus-clause-ok : goal.returns-then-is_minus-clause-ok
returns-then-is_minus-clause-ok c =
    let ten = ten_le (length c.args.text.now) 15 c.requires.high in
    let below = c.in_ok-size.ensures.fits in
    record {
      valid = numeric_from_valid c.args.text.now c.in_ok-size.ensures.valid;
      value = minus_back c.in_ok-size.size (omega arith) ∙ spelled-minus c.args.text.now c.in_ok-size.size (sym c.if-is_minus.ensures) c.in_ok-size.ensures.value;
    }

pub returns-then-is_minus-clause-number : goal.returns-then-is_minus-clause-number
returns-then-is_minus-clause-number c =
    let ten = ten_le (length c.args.text.now) 15 c.requires.high in
    let below = c.in_ok-size.ensures.fits in
    ap Some (minus_back c.in_ok-size.size (omega arith) ∙ spelled-minus c.args.text.now c.in_ok-size.size (sym c.if-is_minus.ensures) c.in_ok-size.ensures.value)
    ∙ sym (number_some c.args.text.now (numeric_from_valid c.args.text.now c.in_ok-size.ensures.valid))

pub returns-clause-ok : goal.returns-clause-ok
returns-clause-ok c =
    let ten = ten_le (length c.args.text.now) 15 c.requires.high in
    let below = c.in_ok-size.ensures.fits in
    record {
      valid = numeric_from_valid c.args.text.now c.in_ok-size.ensures.valid;
      value = plus_back c.in_ok-size.size (omega arith) ∙ spelled-plus c.args.text.now c.in_ok-size.size (sym c.if-is_minus.ensures) c.in_ok-size.ensures.value;
    }

pub returns-clause-number : goal.returns-clause-number
returns-clause-number c =
    let ten = ten_le (length c.args.text.now) 15 c.requires.high in
    let below = c.in_ok-size.ensures.fits in
    ap Some (plus_back c.in_ok-size.size (omega arith) ∙ spelled-plus c.args.text.now c.in_ok-size.size (sym c.if-is_minus.ensures) c.in_ok-size.ensures.value)
    ∙ sym (number_some c.args.text.now (numeric_from_valid c.args.text.now c.in_ok-size.ensures.valid))
