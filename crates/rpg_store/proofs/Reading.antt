-- Texts that were written for numbers, place by place.
use Rattle.std.proofs.Common.{◌≡◌, ℕ, zero, suc, ◌+◌, ◌-◌, ◌*◌, ◌/◌, ◌%◌, ◌<◌, ◌≤◌, true, false, leb, ℤ, pos, negsuc, unsigned_abs, List, [], ◌∷◌, ◌++◌, map, length, get_or, take, refl, sym, ap, ◌∙◌, subst, arith}
use Rattle.std.proofs.lemmas.Bool.{and_parts, leb-true, or_left, or_right}
use Rattle.std.proofs.lemmas.Bool.Decides.{nat_tests}
use Rattle.std.proofs.lemmas.List.{get_or-map, length-map}
use Rattle.std.specs.List.{All}
use Rattle.rpg_decimal_words.specs.Place.{lowest_digits, place_value}
use Rattle.rpg_decimal_words.specs.Zoned.{digit_of, is_digit, is_minus, last_character, last_of, minus_letter, spelled_number}
use Rattle.rpg_decimal.proofs.PlaceLemmas.{get_or-digits-below, length-digits, place_value_more}
use Rattle.rpg_decimal.proofs.ZonedLemmas.{digit_stands, is_minus-letter, last_character-pos, last_of_push}
use Rattle.rpg_store.specs.Written.{IsDigit, IsLastWritten, IsWritten}

front_all : (xs : List ℕ) (c k : ℕ) → length xs ≡ k → take k (xs ++ c ∷ []) ≡ xs
front_all xs c k h = ap (λ n. take n (xs ++ c ∷ [])) (sym h) ∙ whole xs
  where
    whole : (ys : List ℕ) → take (length ys) (ys ++ c ∷ []) ≡ ys
    whole [] = refl
    whole (y ∷ ys) = ap (λ zs. y ∷ zs) (whole ys)

long_front : (k m : ℕ) → length (map (λ d. 48 + d) (lowest_digits k m)) ≡ k
long_front k m = length-map (lowest_digits k m) (λ d. 48 + d) ∙ length-digits k m

-- the places before the last one have digits
pub front_digits : (text : List ℕ) → IsWritten text → All IsDigit (take (length text - 1) text)
front_digits text h =
    let k = length text - 1 in
    let m = unsigned_abs (spelled_number text) / 10 in
    let front = map (λ d. 48 + d) (lowest_digits k m) in
    let is : take k text ≡ front = ap (take k) h ∙ front_all front (last_character (spelled_number text)) k (long_front k m) in
    subst (λ xs. All IsDigit xs) (sym is) (λ i d l.
    let lf = long_front k m in
    let ld = length-digits k m in
    subst IsDigit (sym (get_or-map (λ e. 48 + e) (lowest_digits k m) i 0 d (omega arith))) (digit_stands (get_or (lowest_digits k m) i 0) (get_or-digits-below k m i)))

-- the last place, as it is written for a number
last_is : (text : List ℕ) → IsWritten text → last_of text ≡ last_character (spelled_number text)
last_is text h = ap last_of h ∙ last_of_push (map (λ d. 48 + d) (lowest_digits (length text - 1) (unsigned_abs (spelled_number text) / 10))) (last_character (spelled_number text))

last_of_number : (n : ℤ) → IsLastWritten (last_character n)
last_of_number (pos a) = subst IsLastWritten (sym (last_character-pos a)) (or_left (is_digit (48 + a % 10)) (is_minus (48 + a % 10)) (digit_stands (a % 10) (omega arith)))
last_of_number (negsuc a) = or_right (is_digit (minus_letter (suc a % 10))) (is_minus (minus_letter (suc a % 10))) (is_minus-letter (suc a % 10) (omega arith))

pub last_written : (text : List ℕ) → IsWritten text → IsLastWritten (last_of text)
last_written text h = subst IsLastWritten (sym (last_is text h)) (last_of_number (spelled_number text))

take_all : (xs : List ℕ) (n : ℕ) → length xs ≤ n → take n xs ≡ xs
take_all [] zero l = refl
take_all [] (suc n) l = refl
take_all (x ∷ xs) zero l = absurd (omega arith)
take_all (x ∷ xs) (suc n) l = ap (λ ys. x ∷ ys) (take_all xs n (omega arith))

-- the places before the last one, and the last one
pub all_places : (text : List ℕ) → 1 ≤ length text → place_value (map digit_of text) ≡ place_value (map digit_of (take (length text - 1) text)) * 10 + digit_of (last_of text)
all_places text h =
    let k = length text - 1 in
    ap (λ xs. place_value (map digit_of xs)) (sym (take_all text (k + 1) (omega arith))) ∙ place_value_more digit_of text k (omega arith)

-- ---- characters

pub digit_bounds : (c : ℕ) → IsDigit c → (48 ≤ c) × (c ≤ 57)
digit_bounds c h = let t = and_parts (leb 48 c) (leb c 57) h in (leb-true 48 c t.0, leb-true c 57 t.1)

pub digit_is : (c : ℕ) → IsDigit c → digit_of c ≡ c - 48
digit_is c h = grind (arith, nat_tests)

pub sign_plain : (c : ℕ) → c ≤ 57 → is_minus c ≡ false
sign_plain c h = grind (arith, nat_tests)

-- after 9 a character of the last place stands for a number below zero
pub sign_minus : (c : ℕ) → IsLastWritten c → 57 < c → is_minus c ≡ true
sign_minus c w h = grind (arith, nat_tests)
