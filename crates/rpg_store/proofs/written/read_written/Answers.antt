use Rattle.std.proofs.Common.{◌≡◌, ◌+◌, ◌*◌, ◌-◌, map, length, take, ap₂, sym, ◌∙◌, arith}
use Rattle.std.proofs.lemmas.Int.{ints}
use Rattle.std.proofs.lemmas.List.{length-take-le}
use Rattle.rpg_decimal_words.specs.Place.{place_value}
use Rattle.rpg_decimal_words.specs.Zoned.{digit_of, last_of}
use Rattle.rpg_decimal.proofs.WholeLemmas.{ten_le}
use Rattle.rpg_decimal.proofs.ZonedLemmas.{minus_back, plus_back, spelled-minus, spelled-plus}
use Rattle.rpg_store.proofs.Reading.{all_places, front_digits, last_written, sign_minus, sign_plain}
use Rattle.rpg_store.proofs.written.read_written.Goals as goal

pub value_of-requires-clause-digits : goal.value_of-requires-clause-digits
value_of-requires-clause-digits c = front_digits c.args.text.now c.requires.written

pub overflow_mul-size : goal.overflow_mul-size
overflow_mul-size c =
    let text = c.args.text.now in
    let short : length (take (length text - 1) text) ≡ length text - 1 = length-take-le (length text - 1) text (omega arith) in
    let ten = ten_le (length (take (length text - 1) text)) 14 (omega arith) in
    let below = c.value_of.ensures.fits in
    record { fits = omega arith }

pub overflow_add-size : goal.overflow_add-size
overflow_add-size c =
    let text = c.args.text.now in
    let short : length (take (length text - 1) text) ≡ length text - 1 = length-take-le (length text - 1) text (omega arith) in
    let ten = ten_le (length (take (length text - 1) text)) 14 (omega arith) in
    let below = c.value_of.ensures.fits in
    let digit = c.last_digit.ensures.below in
    let from = c.from.ensures in
    record { fits = omega arith }

pub overflow_cast-result : goal.overflow_cast-result
overflow_cast-result c =
    let text = c.args.text.now in
    let short : length (take (length text - 1) text) ≡ length text - 1 = length-take-le (length text - 1) text (omega arith) in
    let ten = ten_le (length (take (length text - 1) text)) 14 (omega arith) in
    let below = c.value_of.ensures.fits in
    let digit = c.last_digit.ensures.below in
    let from = c.from.ensures in
    omega (arith, ints)

pub overflow_cast-result-else-text-last-le57 : goal.overflow_cast-result-else-text-last-le57
overflow_cast-result-else-text-last-le57 c =
    let text = c.args.text.now in
    let short : length (take (length text - 1) text) ≡ length text - 1 = length-take-le (length text - 1) text (omega arith) in
    let ten = ten_le (length (take (length text - 1) text)) 14 (omega arith) in
    let below = c.value_of.ensures.fits in
    let digit = c.last_digit.ensures.below in
    let from = c.from.ensures in
    omega (arith, ints)

pub overflow_sub-result : goal.overflow_sub-result
overflow_sub-result c =
    let text = c.args.text.now in
    let short : length (take (length text - 1) text) ≡ length text - 1 = length-take-le (length text - 1) text (omega arith) in
    let ten = ten_le (length (take (length text - 1) text)) 14 (omega arith) in
    let below = c.value_of.ensures.fits in
    let digit = c.last_digit.ensures.below in
    let from = c.from.ensures in
    omega (arith, ints)

pub returns-then-text-last-le57 : goal.returns-then-text-last-le57
returns-then-text-last-le57 c =
    let text = c.args.text.now in
    let short : length (take (length text - 1) text) ≡ length text - 1 = length-take-le (length text - 1) text (omega arith) in
    let ten = ten_le (length (take (length text - 1) text)) 14 (omega arith) in
    let below = c.value_of.ensures.fits in
    let digit = c.last_digit.ensures.below in
    let from = c.from.ensures in
    let size = c.value_of.result * 10 + c.from.result in
    let size_is : size ≡ place_value (map digit_of text) = ap₂ (λ n d. n * 10 + d) c.value_of.ensures.value (c.from.ensures ∙ c.last_digit.ensures.digit) ∙ sym (all_places text c.requires.low) in
    plus_back size (omega arith) ∙ spelled-plus text size (sign_plain (last_of text) c.if-text-last-le57.true) size_is

pub returns-else-text-last-le57 : goal.returns-else-text-last-le57
returns-else-text-last-le57 c =
    let text = c.args.text.now in
    let short : length (take (length text - 1) text) ≡ length text - 1 = length-take-le (length text - 1) text (omega arith) in
    let ten = ten_le (length (take (length text - 1) text)) 14 (omega arith) in
    let below = c.value_of.ensures.fits in
    let digit = c.last_digit.ensures.below in
    let from = c.from.ensures in
    let size = c.value_of.result * 10 + c.from.result in
    let size_is : size ≡ place_value (map digit_of text) = ap₂ (λ n d. n * 10 + d) c.value_of.ensures.value (c.from.ensures ∙ c.last_digit.ensures.digit) ∙ sym (all_places text c.requires.low) in
    minus_back size (omega arith) ∙ spelled-minus text size (sign_minus (last_of text) (last_written text c.requires.written) c.if-text-last-le57.false) size_is
