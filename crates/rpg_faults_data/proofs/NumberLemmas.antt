-- Texts of digits, read as numbers.
use Rattle.std.proofs.Common.{◌≡◌, ℕ, ◌+◌, ◌-◌, ◌≤◌, ◌<◌, true, false, ℤ, List, map, length, cond, slice_index, Some, sym, ap, ◌∙◌, arith, pos, ◌^◌, unsigned_abs, to_z, of_z, w64, Result, Ok, Err}
use Rattle.std.proofs.lemmas.Bool.{or_left, or_right}
use Rattle.std.proofs.lemmas.Bool.Decides.{nat_tests}
use Rattle.std.specs.Prelude.{IfOk, IfSome, nat_eq}
use Rattle.std.specs.Result.{result_ok}
use Rattle.rpg_decimal_words.specs.Place.{place_value}
use Rattle.rpg_decimal_words.specs.Zoned.{digit_of, is_digit, is_letter_from, is_minus, last_of, number_in}
use Rattle.rpg_decimal.proofs.WholeLemmas.{back_64, mag_below, ten_le}
use Rattle.rpg_decimal.proofs.ZonedLemmas.{is_minus-plain, number_some, numeric_from_valid, spelled-plus}

-- ---- texts of digits

not_minus : (c : ℕ) → is_digit c ≡ true → is_minus c ≡ false
not_minus c h =
    let low : 48 ≤ c = grind (arith, nat_tests) in
    let high : c ≤ 57 = grind (arith, nat_tests) in
    let same : 48 + (c - 48) ≡ c = omega arith in
    sym (ap is_minus same) ∙ is_minus-plain (c - 48) (omega arith)

pub digit_is : (c : ℕ) → is_digit c ≡ true → digit_of c ≡ c - 48
digit_is c h = ap (λ b. cond b (c - 48) (cond (is_letter_from 65 c) (c - 64) (cond (is_letter_from 74 c) (c - 73) 0))) h

pub digit_bound : (c : ℕ) → is_digit c ≡ true → c ≤ 57
digit_bound c h = grind (arith, nat_tests)

pub plain_number : (text : List ℕ) (n : ℕ) → 1 ≤ length text → ((k : ℕ) → k < length text → is_digit (slice_index text k) ≡ true) → n ≡ place_value (map digit_of text) → number_in text ≡ Some (pos n)
plain_number text n some digits value =
    number_some text (numeric_from_valid text (λ k less. or_left _ _ (or_right (nat_eq (slice_index text k) 32) _ (digits k less))))
    ∙ ap (λ m. Some m) (sym (spelled-plus text n (not_minus (last_of text) (digits (length text - 1) (omega arith))) value))

pub comes_back : (n : ℤ) → unsigned_abs n < 10 ^ 15 → to_z w64 (of_z w64 n) ≡ n
comes_back n small = back_64 (let h = mag_below n (10 ^ 15) small in omega arith)

pub read_fits : {E : Type 0} (r : Result ℤ E) (len : ℕ) → len ≤ 15 → IfOk r (λ n. unsigned_abs n < 10 ^ len) → IfSome (result_ok r) (λ n. unsigned_abs n < 10 ^ 15)
read_fits (Ok n) len few h = let ten = ten_le len 15 few in omega arith
read_fits (Err e) len few h = tt
