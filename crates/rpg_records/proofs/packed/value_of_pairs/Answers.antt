use Rattle.std.proofs.Common.{◌≡◌, ◌+◌, ◌*◌, ◌/◌, ◌%◌, ◌^◌, ◌<◌, ◌≤◌, length, take, get_or, ap, ap₂, sym, subst, ◌∙◌, arith}
use Rattle.std.proofs.lemmas.Nat.{pow-add}
use Rattle.std.specs.List.{list_all}
use Rattle.rpg_decimal_words.specs.Place.{place_value}
use Rattle.rpg_records.specs.Packed.{halves, is_figure}
use Rattle.rpg_records.proofs.Halves.{bad_high, bad_low, halves_more, value_two, figures_two, hundred, hundred_le}
use Rattle.rpg_records.proofs.packed.value_of_pairs.Goals as goal
use Rattle.rpg_records.proofs.packed.value_of_pairs.Goals.{then-tens-gt9-via-then-tens-gt9, then-tens-gt9-via-else-tens-gt9+then-ones-gt9}

pub returns-then-tens-gt9-clause-none : goal.returns-then-tens-gt9-clause-none
returns-then-tens-gt9-clause-none c =
    let bytes = c.args.bytes.now in
    let i = c.loop-byte.byte-index in
    let inside : i < length bytes = c.loop-byte-test.true in
    elim c.then-tens-gt9.branch [
      | then-tens-gt9-via-then-tens-gt9 w ↦ bad_high bytes i inside w.if-tens-gt9.true
      | then-tens-gt9-via-else-tens-gt9+then-ones-gt9 w ↦ bad_low bytes i inside w.if-ones-gt9.true
    ]

pub overflow_mul-size : goal.overflow_mul-size
overflow_mul-size c =
    let i = c.loop-byte.byte-index in
    let inside : i < length c.args.bytes.now = c.loop-byte-test.true in
    let below : c.loop-byte.size < 100 ^ i = c.loop-byte.invariant.below in
    let few : length c.args.bytes.now ≤ 7 = c.requires in
    let p = hundred_le i 6 (omega arith) in
    record { fits = omega (arith, p, below) }

pub overflow_add-size : goal.overflow_add-size
overflow_add-size c =
    let i = c.loop-byte.byte-index in
    let inside : i < length c.args.bytes.now = c.loop-byte-test.true in
    let below : c.loop-byte.size < 100 ^ i = c.loop-byte.invariant.below in
    let few : length c.args.bytes.now ≤ 7 = c.requires in
    let p = hundred_le i 6 (omega arith) in
    let t = c.if-tens-gt9.false in
    let o = c.if-ones-gt9.false in
    let f = c.from.ensures in
    record { fits = omega (arith, p, below, t, o, f) }

pub loop-byte-preserved : goal.loop-byte-preserved
loop-byte-preserved c =
    let bytes = c.args.bytes.now in
    let i = c.loop-byte.byte-index in
    let b = get_or bytes i 0 in
    let inside : i < length bytes = c.loop-byte-test.true in
    let t : b / 16 ≤ 9 = c.if-tens-gt9.false in
    let o : b % 16 ≤ 9 = c.if-ones-gt9.false in
    let f : c.from.result ≡ b / 16 * 10 + b % 16 = c.from.ensures in
    record {
      size_is =
          ap₂ (λ s d. s * 100 + d) c.loop-byte.invariant.size_is f
          ∙ sym (ap place_value (halves_more bytes i inside) ∙ value_two (halves (take i bytes)) (b / 16) (b % 16));
      valid =
          ap (list_all is_figure) (halves_more bytes i inside)
          ∙ figures_two (halves (take i bytes)) (b / 16) (b % 16) c.loop-byte.invariant.valid (omega (arith, t)) (omega (arith, o));
      below = let e = pow-add 100 i 1 in let l = c.loop-byte.invariant.below in omega (arith, e, l, t, o, f);
    }

pub returns-clause-fits : goal.returns-clause-fits
returns-clause-fits c =
    let n = length c.args.bytes.now in
    let past = c.loop-byte-test.false in
    let upto = c.loop-byte.auto.byte-index-end in
    let e : c.loop-byte.byte-index ≡ n = omega (arith, past, upto) in
    rw (sym (hundred n)) (subst (λ j. c.loop-byte.size < 100 ^ j) e c.loop-byte.invariant.below)
