use Rattle.std.proofs.Common.{◌+◌, ◌*◌, ap₂, sym, ◌∙◌, arith, below_more}
use Rattle.std.proofs.lemmas.Nat.{pow-add}
use Rattle.rpg_decimal_words.specs.Zoned.{digit_of, IsValidAt}
use Rattle.rpg_decimal.proofs.WholeLemmas.{ten_le}
use Rattle.rpg_decimal.proofs.PlaceLemmas.{place_value_more}
use Rattle.rpg_decimal.proofs.zoned.read_digits.Goals as goal

pub overflow_mul-size : goal.overflow_mul-size
overflow_mul-size c = let ten = ten_le c.loop-spot.spot 14 (omega arith) in record { fits = omega arith }

pub overflow_add-size : goal.overflow_add-size
overflow_add-size c = let ten = ten_le c.loop-spot.spot 14 (omega arith) in record { fits = omega arith }

pub loop-spot-preserved : goal.loop-spot-preserved
loop-spot-preserved c =
    let i = c.loop-spot.spot in
    let s = c.args.text.now in
    record {
      valid = below_more (IsValidAt s) i c.loop-spot.invariant.valid (sym c.if-not-may_stand.ensures);
      size_is =
          ap₂ (λ n d. n * 10 + d) c.loop-spot.invariant.size_is (c.from.ensures ∙ c.digit_of.ensures.value)
          ∙ sym (place_value_more digit_of s i (omega arith));
      below = let e = pow-add 10 i 1 in omega arith;
    }
