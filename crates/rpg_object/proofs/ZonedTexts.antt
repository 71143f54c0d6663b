-- The text that is written for a number is read as that number, and a text's number has no more digits than the text.
use Rattle.std.proofs.Common.{◌≡◌, ℕ, zero, suc, ◌+◌, ◌*◌, ◌^◌, ◌<◌, ◌≤◌, Bool, true, false, ℤ, pos, neg_ℤ, unsigned_abs, List, [], ◌∷◌, map, length, refl, ap, ◌∙◌, arith, Some, None, pow-suc, inl, inr}
use Rattle.std.proofs.Math.Nat.{mul-le-mul_right}
use Rattle.std.proofs.lemmas.Bool.Decides.{nat_tests}
use Rattle.std.proofs.lemmas.List.{length-map}
use Rattle.rpg_decimal_words.specs.Place.{place_value, signed_number}
use Rattle.rpg_decimal_words.specs.Zoned.{is_numeric, is_minus, digit_of, last_of, spelled_number, number_in, zoned_text}
use Rattle.rpg_decimal.proofs.ZonedLemmas.{number_some, numeric-zoned, spelled-zoned}
use Rattle.rpg_object_format.proofs.Rules.{chosen}

-- what is written for a number of k digits is read as it
pub number_in-zoned : (k : ℕ) (n : ℤ) → 1 ≤ k → unsigned_abs n < 10 ^ k → number_in (zoned_text k n) ≡ Some n
number_in-zoned k n low h = number_some (zoned_text k n) (numeric-zoned k n) ∙ ap (λ m. Some m) (spelled-zoned k n low h)

digit_of-below : (c : ℕ) → digit_of c < 10
digit_of-below c = grind (arith, nat_tests)

place_value-below : (text : List ℕ) → place_value (map digit_of text) < 10 ^ length text
place_value-below [] = omega arith
place_value-below (c ∷ text) =
    let more = place_value-below text in
    let same = length-map text digit_of in
    let power = pow-suc 10 (length text) in
    let digit = digit_of-below c in
    let most : digit_of c * 10 ^ length text ≤ 9 * 10 ^ length text = mul-le-mul_right (10 ^ length text) (omega arith) in
    let here : place_value (map digit_of (c ∷ text)) ≡ digit_of c * 10 ^ length text + place_value (map digit_of text) = ap (λ k. digit_of c * 10 ^ k + place_value (map digit_of text)) same in
    omega arith

unsigned_abs-neg : (n : ℕ) → unsigned_abs (neg_ℤ (pos n)) ≡ n
unsigned_abs-neg zero = refl
unsigned_abs-neg (suc n) = refl

signed-below : (negative : Bool) (ds : List ℕ) (limit : ℕ) → place_value ds < limit → unsigned_abs (signed_number negative ds) < limit
signed-below true ds limit h = rw (unsigned_abs-neg (place_value ds)) h
signed-below false ds limit h = h

-- a text's number has no more digits than the text
pub number_in-below : (text : List ℕ) (n : ℤ) → number_in text ≡ Some n → unsigned_abs n < 10 ^ length text
number_in-below text n e =
    elim (chosen (is_numeric text) (Some (spelled_number text)) None (Some n) e) [
      | inl w ↦ let k : spelled_number text ≡ n = let h = w.1 in cc in rw (← k) (signed-below (is_minus (last_of text)) (map digit_of text) (10 ^ length text) (place_value-below text))
      | inr w ↦ absurd (let h = w.1 in cc)
    ]
