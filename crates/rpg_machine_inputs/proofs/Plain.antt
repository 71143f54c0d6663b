-- Plain digits, and the number that a text of them spells.
use Rattle.std.proofs.Common.{◌≡◌, ℕ, ◌+◌, ◌-◌, ◌*◌, ◌/◌, ◌%◌, ◌^◌, ◌<◌, ◌≤◌, Bool, true, false, if◌then◌else◌, nat_le, leb-true, below_more, zero, suc, ◌==◌, ◌||◌, List, [], ◌∷◌, length, map, take, slice_index, get_or, Some, pos, neg_ℤ, unsigned_abs, inl, inr, eq-eqb, refl, sym, ap, ap₂, ◌∙◌, subst, arith}
use Rattle.std.proofs.lemmas.Bool.{cases_lt, or_left, or_right, eqb-true, and_parts}
use Rattle.std.proofs.lemmas.Bool.Decides.{nat_tests}
use Rattle.std.proofs.lemmas.List.{take_all, length-map, length-take-le}
use Rattle.std.proofs.lemmas.Nat.{and_block, pow-add}
use Rattle.std.proofs.lemmas.Nat.Bits.{and_high}
use Rattle.std.specs.Int.RustNames.{bit_and}
use Rattle.rpg_decimal.proofs.PlaceLemmas.{place_value-below, place_value_more}
use Rattle.rpg_decimal.proofs.ZonedLemmas.{is_minus-plain, number_some, numeric_from_valid, spelled-minus, spelled-plus}
use Rattle.rpg_decimal_words.specs.Place.{place_value}
use Rattle.rpg_decimal_words.specs.Zoned.{digit_of, is_digit, is_letter_from, is_minus, is_numeric, is_plus, last_of, may_stand, number_in}
use Rattle.rpg_machine_inputs.specs.Digits.{is_plain, AreFour, ArePlainTo, IsMinusDigit}

-- ---- one character

pub digit_low : (c : ℕ) → is_digit c ≡ true → 48 ≤ c
digit_low c h = leb-true 48 c (and_parts (nat_le 48 c) (nat_le c 57) h).0

pub digit_high : (c : ℕ) → is_digit c ≡ true → c ≤ 57
digit_high c h = leb-true c 57 (and_parts (nat_le 48 c) (nat_le c 57) h).1

pub is_digit_from : (c : ℕ) → 48 ≤ c → c ≤ 57 → is_digit c ≡ true
is_digit_from c low high = grind (arith, nat_tests)

pub digit_is : (c : ℕ) → is_digit c ≡ true → digit_of c ≡ c - 48
digit_is c h = ap (λ b. if b then c - 48 else (if is_letter_from 65 c then c - 64 else (if is_letter_from 74 c then c - 73 else 0))) h

plain_is : (c : ℕ) → is_digit c ≡ true → 48 + (c - 48) ≡ c
plain_is c h = let low = digit_low c h in omega (arith, low)

plain_below : (c : ℕ) → is_digit c ≡ true → c - 48 < 10
plain_below c h = let high = digit_high c h in omega (arith, high)

digit_isn't_minus : (c : ℕ) → is_digit c ≡ true → is_minus c ≡ false
digit_isn't_minus c h = ap is_minus (sym (plain_is c h)) ∙ is_minus-plain (c - 48) (plain_below c h)

plain_from_digit : (c : ℕ) → is_digit c ≡ true → is_plain c ≡ true
plain_from_digit c h = or_right (c == 32) (is_digit c) h

plain_may_stand : (last : Bool) (c : ℕ) → is_plain c ≡ true → may_stand last c ≡ true
plain_may_stand last c h = or_left (is_plain c) _ h

minus_by : (b : Bool) (c : ℕ) → (c == 32) ≡ b → (b || is_digit c) ≡ true → is_minus c ≡ false
minus_by true c e h = ap is_minus (eqb-true c 32 e)
minus_by false c e h = digit_isn't_minus c h

plain_isn't_minus : (c : ℕ) → is_plain c ≡ true → is_minus c ≡ false
plain_isn't_minus c h = minus_by (c == 32) c refl h

-- ---- four characters in a word

-- each has the high half of a zero
pub record HasZeroHalves (a b c d : ℕ) : Type 0 where
  pub low_a : 48 ≤ a
  pub high_a : a ≤ 63
  pub low_b : 48 ≤ b
  pub high_b : b ≤ 63
  pub low_c : 48 ≤ c
  pub high_c : c ≤ 63
  pub low_d : 48 ≤ d
  pub high_d : d ≤ 63

one_half : (n half : ℕ) → n < 256 → half ≡ (n / 16 % 16) * 16 → half ≡ 48 → (48 ≤ n) × (n ≤ 63)
one_half n half low is h = (omega (arith, low, is, h), omega (arith, low, is, h))

halves_are : (a b c d : ℕ) → a < 256 → b < 256 → c < 256 → d < 256 → (w x y z : ℕ) → w ≡ (a / 16 % 16) * 16 → x ≡ (b / 16 % 16) * 16 → y ≡ (c / 16 % 16) * 16 →
    z ≡ (d / 16 % 16) * 16 → ((z * 256 + y) * 256 + x) * 256 + w ≡ 808464432 → HasZeroHalves a b c d
halves_are a b c d la lb lc ld w x y z iw ix iy iz h =
    let bw : w < 256 = omega (arith, iw) in
    let bx : x < 256 = omega (arith, ix) in
    let by : y < 256 = omega (arith, iy) in
    let bz : z < 256 = omega (arith, iz) in
    let ew : w ≡ 48 = omega (arith, bw, bx, by, bz, h) in
    let ex : x ≡ 48 = omega (arith, bw, bx, by, bz, h) in
    let ey : y ≡ 48 = omega (arith, bw, bx, by, bz, h) in
    let ez : z ≡ 48 = omega (arith, bw, bx, by, bz, h) in
    let ra = one_half a w la iw ew in
    let rb = one_half b x lb ix ex in
    let rc = one_half c y lc iy ey in
    let rd = one_half d z ld iz ez in
    record { low_a = ra.0; high_a = ra.1; low_b = rb.0; high_b = rb.1; low_c = rc.0; high_c = rc.1; low_d = rd.0; high_d = rd.1 }

pub zero_halves : (a b c d word : ℕ) → a < 256 → b < 256 → c < 256 → d < 256 → word ≡ a + b * 256 + c * 65536 + d * 16777216 → bit_and word 4042322160 ≡ 808464432 →
    HasZeroHalves a b c d
zero_halves a b c d word la lb lc ld is h =
    let one : bit_and ((b + c * 256 + d * 65536) * 256 + a) 4042322160 ≡ bit_and (b + c * 256 + d * 65536) 15790320 * 256 + bit_and a 240 =
    and_block 8 (b + c * 256 + d * 65536) 15790320 a 240 la (omega arith) in
    let two : bit_and ((c + d * 256) * 256 + b) 15790320 ≡ bit_and (c + d * 256) 61680 * 256 + bit_and b 240 = and_block 8 (c + d * 256) 61680 b 240 lb (omega arith) in
    let three : bit_and (d * 256 + c) 61680 ≡ bit_and d 240 * 256 + bit_and c 240 = and_block 8 d 240 c 240 lc (omega arith) in
    let split_one : (b + c * 256 + d * 65536) * 256 + a ≡ word = omega (arith, is) in
    let split_two : (c + d * 256) * 256 + b ≡ b + c * 256 + d * 65536 = omega arith in
    let split_three : d * 256 + c ≡ c + d * 256 = omega arith in
    let first : bit_and (b + c * 256 + d * 65536) 15790320 * 256 + bit_and a 240 ≡ 808464432 = sym one ∙ ap (λ n. bit_and n 4042322160) split_one ∙ h in
    let second : bit_and (b + c * 256 + d * 65536) 15790320 ≡ bit_and (c + d * 256) 61680 * 256 + bit_and b 240 = sym (ap (λ n. bit_and n 15790320) split_two) ∙ two in
    let third : bit_and (c + d * 256) 61680 ≡ bit_and d 240 * 256 + bit_and c 240 = sym (ap (λ n. bit_and n 61680) split_three) ∙ three in
    let half_a : bit_and a 240 ≡ (a / 16 % 16) * 16 = and_high a 4 4 in
    let half_b : bit_and b 240 ≡ (b / 16 % 16) * 16 = and_high b 4 4 in
    let half_c : bit_and c 240 ≡ (c / 16 % 16) * 16 = and_high c 4 4 in
    let half_d : bit_and d 240 ≡ (d / 16 % 16) * 16 = and_high d 4 4 in
    halves_are a b c d la lb lc ld (bit_and a 240) (bit_and b 240) (bit_and c 240) (bit_and d 240) half_a half_b half_c half_d
    (ap (λ n. n * 256 + bit_and a 240) (sym (second ∙ ap (λ n. n * 256 + bit_and b 240) third)) ∙ first)

-- none goes to another high half by six more
pub digits_are : (a b c d word : ℕ) → HasZeroHalves a b c d → word ≡ a + b * 256 + c * 65536 + d * 16777216 → bit_and (word + 101058054) 4042322160 ≡ 808464432 →
    HasZeroHalves (a + 6) (b + 6) (c + 6) (d + 6)
digits_are a b c d word h is more =
    zero_halves (a + 6) (b + 6) (c + 6) (d + 6) (word + 101058054) (omega (arith, h.high_a)) (omega (arith, h.high_b)) (omega (arith, h.high_c)) (omega (arith, h.high_d)) (omega (arith, is)) more

-- the pairs of neighbours, and of these the first and the third
pub pairs_are : (a b c d word digits pairs n : ℕ) → HasZeroHalves a b c d → HasZeroHalves (a + 6) (b + 6) (c + 6) (d + 6) → word ≡ a + b * 256 + c * 65536 + d * 16777216 →
    digits ≡ word - 808464432 → pairs ≡ digits * 10 + digits / 256 → n ≡ pairs % 256 * 100 + pairs / 65536 % 256 →
    n ≡ (((a - 48) * 10 + (b - 48)) * 10 + (c - 48)) * 10 + (d - 48)
pairs_are a b c d word digits pairs n h g is digits_is pairs_is n_is =
    let p = a - 48 in
    let q = b - 48 in
    let r = c - 48 in
    let s = d - 48 in
    let whole : digits ≡ (q + r * 256 + s * 65536) * 256 + p = omega (arith, h.low_a, h.low_b, h.low_c, h.low_d, is, digits_is) in
    let next : digits / 256 ≡ q + r * 256 + s * 65536 = omega (arith, h.low_a, g.high_a, whole) in
    let sum : pairs ≡ (p * 10 + q) + (q * 10 + r) * 256 + ((r * 10 + s) + s * 10 * 256) * 65536 = omega (arith, whole, next, pairs_is) in
    let first : pairs % 256 ≡ p * 10 + q = omega (arith, h.low_a, g.high_a, h.low_b, g.high_b, sum) in
    let rest : pairs / 65536 ≡ (r * 10 + s) + s * 10 * 256 = omega (arith, h.low_a, g.high_a, h.low_b, g.high_b, h.low_c, g.high_c, sum) in
    let third : pairs / 65536 % 256 ≡ r * 10 + s = omega (arith, h.low_c, g.high_c, h.low_d, g.high_d, rest) in
    omega (arith, first, third, n_is)

between : (a w : ℕ) → w ≡ a → 48 ≤ w → w + 6 ≤ 63 → is_digit a ≡ true
between a w same low high = is_digit_from a (omega (arith, same, low)) (omega (arith, same, high))

digit_by : (a w : ℕ) → w ≡ a → is_digit a ≡ true → digit_of a ≡ w - 48
digit_by a w same h = digit_is a h ∙ ap (λ n. n - 48) (sym same)

same_number : (p q r s t u v o : ℕ) → p ≡ t → q ≡ u → r ≡ v → s ≡ o → ((p * 10 + q) * 10 + r) * 10 + s ≡ ((t * 10 + u) * 10 + v) * 10 + o
same_number p q r s t u v o a b c d = cc

-- four characters whose word passed both tests, and the number that was made of it
pub four_are : (a b c d w x y z word digits pairs n : ℕ) → w ≡ a → x ≡ b → y ≡ c → z ≡ d → HasZeroHalves w x y z → HasZeroHalves (w + 6) (x + 6) (y + 6) (z + 6) →
    word ≡ w + x * 256 + y * 65536 + z * 16777216 → digits ≡ word - 808464432 → pairs ≡ digits * 10 + digits / 256 → n ≡ pairs % 256 * 100 + pairs / 65536 % 256 →
    AreFour a b c d n
four_are a b c d w x y z word digits pairs n wa xb yc zd h g is digits_is pairs_is n_is =
    let first = between a w wa h.low_a g.high_a in
    let second = between b x xb h.low_b g.high_b in
    let third = between c y yc h.low_c g.high_c in
    let fourth = between d z zd h.low_d g.high_d in
    record {
      first = first;
      second = second;
      third = third;
      fourth = fourth;
      value = pairs_are w x y z word digits pairs n h g is digits_is pairs_is n_is
          ∙ sym (same_number _ _ _ _ _ _ _ _ (digit_by a w wa first) (digit_by b x xb second) (digit_by c y yc third) (digit_by d z zd fourth));
    }

-- ---- a text, from its front

one_below : (c : ℕ) → digit_of c < 10
one_below c = grind (arith, nat_tests)

digit_below : (text : List ℕ) (i : ℕ) → get_or (map digit_of text) i 0 < 10
digit_below [] i = omega arith
digit_below (x ∷ xs) zero = one_below x
digit_below (x ∷ xs) (suc i) = digit_below xs i

-- its number has as many digits
pub plain_fits : (text : List ℕ) (spot n : ℕ) → ArePlainTo text spot n → n < 10 ^ spot
plain_fits text spot n h =
    let ds = map digit_of (take spot text) in
    let long : length ds ≡ spot = length-map (take spot text) digit_of ∙ length-take-le spot text h.within in
    subst (λ k. n < 10 ^ k) long (subst (λ m. m < 10 ^ length ds) (sym h.value) (place_value-below ds (λ i. digit_below (take spot text) i)))

-- nothing was read yet
pub none_plain : (text : List ℕ) → ArePlainTo text 0 0
none_plain text = record { within = omega arith; each = λ k low. absurd (omega (arith, low)); value = refl }

-- one blank more, after others
pub one_blank : (text : List ℕ) (i : ℕ) → i < length text → ArePlainTo text i 0 → slice_index text i ≡ 32 → ArePlainTo text (i + 1) 0
one_blank text i low h is = record {
  within = omega (arith, low);
  each = below_more (λ k. is_plain (slice_index text k) ≡ true) i h.each (ap is_plain is);
  value = ap₂ (λ m x. m * 10 + digit_of x) h.value (sym is) ∙ sym (place_value_more digit_of text i low);
}

-- one digit more
pub one_plain : (text : List ℕ) (i n c : ℕ) → i < length text → ArePlainTo text i n → c ≡ slice_index text i → is_digit c ≡ true → ArePlainTo text (i + 1) (n * 10 + digit_of c)
one_plain text i n c low h is digit = record {
  within = omega (arith, low);
  each = below_more (λ k. is_plain (slice_index text k) ≡ true) i h.each (plain_from_digit (slice_index text i) (ap is_digit (sym is) ∙ digit));
  value = ap₂ (λ m x. m * 10 + digit_of x) h.value is ∙ sym (place_value_more digit_of text i low);
}

sum_of_four : (n p q r s : ℕ) → (((n * 10 + p) * 10 + q) * 10 + r) * 10 + s ≡ n * 10000 + (((p * 10 + q) * 10 + r) * 10 + s)
sum_of_four n p q r s = omega arith

-- four more
pub four_plain : (text : List ℕ) (i n m a b c d : ℕ) → i + 4 ≤ length text → ArePlainTo text i n → a ≡ slice_index text i → b ≡ slice_index text (i + 1) → c ≡ slice_index text (i + 2) →
    d ≡ slice_index text (i + 3) → AreFour a b c d m → ArePlainTo text (i + 4) (n * 10000 + m)
four_plain text i n m a b c d low h ia ib ic id four =
    let p = n * 10 + digit_of a in
    let q = p * 10 + digit_of b in
    let r = q * 10 + digit_of c in
    let s = r * 10 + digit_of d in
    let low_one : i < length text = omega (arith, low) in
    let low_two : i + 1 < length text = omega (arith, low) in
    let low_three : i + 2 < length text = omega (arith, low) in
    let low_four : i + 3 < length text = omega (arith, low) in
    let at_two : (i + 1) + 1 ≡ i + 2 = omega arith in
    let at_three : (i + 2) + 1 ≡ i + 3 = omega arith in
    let at_four : (i + 3) + 1 ≡ i + 4 = omega arith in
    let one : ArePlainTo text (i + 1) p = one_plain text i n a low_one h ia four.first in
    let two : ArePlainTo text (i + 2) q = subst (λ k. ArePlainTo text k q) at_two (one_plain text (i + 1) p b low_two one ib four.second) in
    let three : ArePlainTo text (i + 3) r = subst (λ k. ArePlainTo text k r) at_three (one_plain text (i + 2) q c low_three two ic four.third) in
    let all : ArePlainTo text (i + 4) s = subst (λ k. ArePlainTo text k s) at_four (one_plain text (i + 3) r d low_four three id four.fourth) in
    let sum : s ≡ n * 10000 + m = sum_of_four n (digit_of a) (digit_of b) (digit_of c) (digit_of d) ∙ ap (λ k. n * 10000 + k) (sym four.value) in
    subst (λ k. ArePlainTo text (i + 4) k) sum all

number_below : (p q r s : ℕ) → p < 10 → q < 10 → r < 10 → s < 10 → ((p * 10 + q) * 10 + r) * 10 + s < 10000
number_below p q r s hp hq hr hs = omega (arith, hp, hq, hr, hs)

pub four_below : (a b c d n : ℕ) → AreFour a b c d n → n < 10000
four_below a b c d n h = subst (λ k. k < 10000) (sym h.value) (number_below (digit_of a) (digit_of b) (digit_of c) (digit_of d) (one_below a) (one_below b) (one_below c) (one_below d))

-- ---- the number of the whole text

plain_valid : (text : List ℕ) (n : ℕ) → ArePlainTo text (length text) n → is_numeric text ≡ true
plain_valid text n h = numeric_from_valid text (λ i low. plain_may_stand (i + 1 == length text) (slice_index text i) (h.each i low))

pub plain_spelled : (text : List ℕ) (n : ℕ) → 1 ≤ length text → ArePlainTo text (length text) n → Some (pos n) ≡ number_in text
plain_spelled text n some h =
    let last : is_minus (last_of text) ≡ false = plain_isn't_minus (last_of text) (h.each (length text - 1) (omega (arith, some))) in
    let whole : n ≡ place_value (map digit_of text) = h.value ∙ ap (λ t. place_value (map digit_of t)) (take_all (length text) text (omega arith)) in
    ap Some (spelled-plus text n last whole) ∙ sym (number_some text (plain_valid text n h))

-- ---- with a minus sign over the last digit

minus_may_stand : (last : Bool) (c : ℕ) → last ≡ true → is_minus c ≡ true → may_stand last c ≡ true
minus_may_stand last c l h = ap (λ b. may_stand b c) l ∙ or_right (is_plain c) (is_plus c || is_minus c) (or_right (is_plus c) (is_minus c) h)

minus_valid : (text : List ℕ) (i n : ℕ) → i + 1 ≡ length text → ArePlainTo text i n → is_minus (slice_index text i) ≡ true → is_numeric text ≡ true
minus_valid text i n is h minus =
    numeric_from_valid text (λ k low. elim (cases_lt k i) [
      | inl before ↦ plain_may_stand (k + 1 == length text) (slice_index text k) (h.each k before)
      | inr after ↦
          let here : k ≡ i = omega (arith, low, after, is) in
          let end : k + 1 ≡ length text = omega (arith, here, is) in
          minus_may_stand (k + 1 == length text) (slice_index text k) (eq-eqb (k + 1) (length text) end) (ap (λ j. is_minus (slice_index text j)) here ∙ minus)
    ])

pub minus_spelled : (text : List ℕ) (i n d : ℕ) → i + 1 ≡ length text → ArePlainTo text i n → IsMinusDigit (slice_index text i) d → Some (neg_ℤ (pos (n * 10 + d))) ≡ number_in text
minus_spelled text i n d is h c =
    let at : length text - 1 ≡ i = omega (arith, is) in
    let last : is_minus (last_of text) ≡ true = ap (λ j. is_minus (slice_index text j)) at ∙ c.minus in
    let whole : n * 10 + d ≡ place_value (map digit_of text) =
    ap₂ (λ m x. m * 10 + x) h.value (sym c.digit) ∙ sym (place_value_more digit_of text i (omega (arith, is)))
    ∙ ap (λ t. place_value (map digit_of t)) (take_all (i + 1) text (omega (arith, is))) in
    ap Some (spelled-minus text (n * 10 + d) last whole) ∙ sym (number_some text (minus_valid text i n is h c.minus))

pub minus_fits : (text : List ℕ) (i n d : ℕ) → i + 1 ≡ length text → ArePlainTo text i n → IsMinusDigit (slice_index text i) d → n * 10 + d < 10 ^ length text
minus_fits text i n d is h c =
    let fits = plain_fits text i n h in
    let ten : 10 ^ (i + 1) ≡ 10 ^ i * 10 = pow-add 10 i 1 in
    let low : d < 10 = subst (λ x. x < 10) c.digit (one_below (slice_index text i)) in
    subst (λ k. n * 10 + d < 10 ^ k) is (omega (arith, fits, ten, low))

pub minus_size : (n : ℕ) → unsigned_abs (neg_ℤ (pos n)) ≡ n
minus_size zero = refl
minus_size (suc n) = refl
