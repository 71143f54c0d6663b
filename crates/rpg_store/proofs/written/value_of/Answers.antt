use Rattle.std.proofs.Common.{◌+◌, ◌*◌, get_or, ap₂, sym, ◌∙◌, arith}
use Rattle.std.proofs.lemmas.Nat.{pow-add}
use Rattle.rpg_decimal_words.specs.Zoned.{digit_of}
use Rattle.rpg_decimal.proofs.PlaceLemmas.{place_value_more}
use Rattle.rpg_decimal.proofs.WholeLemmas.{ten_le}
use Rattle.rpg_store.proofs.Reading.{digit_bounds, digit_is}
use Rattle.rpg_store.proofs.written.value_of.Goals as goal

pub overflow_mul-size : goal.overflow_mul-size
overflow_mul-size c = let ten = ten_le c.loop-c.c-index 14 (omega arith) in record { fits = omega arith }

pub overflow_add-size : goal.overflow_add-size
overflow_add-size c =
    let ten = ten_le c.loop-c.c-index 14 (omega arith) in
    let digit = (digit_bounds (get_or c.args.digits.now c.loop-c.c-index 0) (c.requires.digits c.loop-c.c-index 0 (omega arith))).1 in
    let from = c.from.ensures in
    record { fits = omega arith }

pub loop-c-preserved : goal.loop-c-preserved
loop-c-preserved c =
    let i = c.loop-c.c-index in
    let s = c.args.digits.now in
    let is = c.requires.digits i 0 (omega arith) in
    let digit = (digit_bounds (get_or s i 0) is).1 in
    let from = c.from.ensures in
    record {
      size_is = ap₂ (λ n d. n * 10 + d) c.loop-c.invariant.size_is (c.from.ensures ∙ sym (digit_is (get_or s i 0) is)) ∙ sym (place_value_more digit_of s i (omega arith));
      below = let e = pow-add 10 i 1 in omega arith;
    }
