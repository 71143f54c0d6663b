use Rattle.std.proofs.Common.{◌≡◌, ◌+◌, ◌*◌, true, ap, ap₂, arith, below_more, get_or, map, slice_index, sym, ◌∙◌}
use Rattle.std.proofs.lemmas.List.{take_all}
use Rattle.std.proofs.lemmas.Nat.{pow-add}
use Rattle.rpg_decimal_words.specs.Place.{place_value}
use Rattle.rpg_decimal_words.specs.Zoned.{digit_of, is_digit}
use Rattle.rpg_decimal.proofs.PlaceLemmas.{place_value_more}
use Rattle.rpg_decimal.proofs.WholeLemmas.{ten_le}
use Rattle.rpg_faults_data.proofs.NumberLemmas.{digit_bound, digit_is, plain_number}
use Rattle.rpg_faults_data.proofs.number.plain_number.Goals as goal

pub overflow_mul-number : goal.overflow_mul-number
overflow_mul-number c = let ten = ten_le c.loop-c.c-index 14 (omega arith) in record { fits = omega arith }

pub overflow_add-number : goal.overflow_add-number
overflow_add-number c =
    let ten = ten_le c.loop-c.c-index 14 (omega arith) in
    let digit = digit_bound (get_or c.args.text.now c.loop-c.c-index 0) (sym c.if-not-is_ascii_digit.ensures.value) in
    let is = c.from.ensures in
    record { fits = omega arith }

pub loop-c-preserved : goal.loop-c-preserved
loop-c-preserved c =
    let i = c.loop-c.c-index in
    let s = c.args.text.now in
    let plain = sym c.if-not-is_ascii_digit.ensures.value in
    record {
      digits = below_more (λ k. is_digit (slice_index s k) ≡ true) i c.loop-c.invariant.digits plain;
      number_is =
          ap₂ (λ n d. n * 10 + d) c.loop-c.invariant.number_is (c.from.ensures ∙ sym (digit_is (get_or s i 0) plain))
          ∙ sym (place_value_more digit_of s i (omega arith));
      below = let e = pow-add 10 i 1 in let digit = digit_bound (get_or s i 0) plain in let is = c.from.ensures in omega arith;
    }

pub returns-clause-value : goal.returns-clause-value
returns-clause-value c =
    plain_number c.args.text.now c.loop-c.number c.requires.low (λ k less. c.loop-c.invariant.digits k (omega arith))
    (c.loop-c.invariant.number_is ∙ ap (λ l. place_value (map digit_of l)) (take_all c.loop-c.c-index c.args.text.now (omega arith)))

pub returns-clause-fits : goal.returns-clause-fits
returns-clause-fits c =
    let ten = ten_le c.loop-c.c-index 15 (omega arith) in
    omega arith
