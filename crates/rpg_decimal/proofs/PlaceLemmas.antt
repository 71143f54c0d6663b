-- Digits, their places, and the numbers that they stand for.
use Rattle.std.proofs.Common.{◌≡◌, ℕ, zero, suc, ◌+◌, ◌-◌, ◌*◌, ◌/◌, ◌%◌, ◌^◌, ◌<◌, List, [], ◌∷◌, ◌++◌, map, length, get_or, take, refl, sym, ap, ap₂, ◌∙◌, arith, mul_assoc, length-append, pow-suc, div-add-mod', mod-lt, mod-eq_of_lt, inl, inr, add_comm}
use Rattle.std.proofs.Math.Nat.{div-div-eq-div-mul, add-mul-div_right}
use Rattle.std.proofs.lemmas.Nat.{pow-add, mod-mul-add, mul-add-lt, div-mul-add}
use Rattle.std.proofs.lemmas.Bool.{cases_lt}
use Rattle.std.proofs.lemmas.List.{map_more}
use Rattle.rpg_decimal_words.specs.Place.{place_value, lowest_digits}
use Rattle.rpg_decimal.proofs.WholeLemmas.{ten_pos}

-- ---- the numbers of digits

pub place_value-append : (xs ys : List ℕ) → place_value (xs ++ ys) ≡ place_value xs * 10 ^ length ys + place_value ys
place_value-append [] ys = omega arith
place_value-append (x ∷ xs) ys =
    let more = place_value-append xs ys in
    let power : x * 10 ^ length (xs ++ ys) ≡ x * 10 ^ length xs * 10 ^ length ys =
    ap (λ n. x * 10 ^ n) (length-append xs ys) ∙ ap (λ p. x * p) (pow-add 10 (length xs) (length ys)) ∙ sym (mul_assoc x (10 ^ length xs) (10 ^ length ys)) in
    omega arith

pub place_value_push : (xs : List ℕ) (d : ℕ) → place_value (xs ++ d ∷ []) ≡ place_value xs * 10 + d
place_value_push xs d = place_value-append xs (d ∷ []) ∙ omega arith

pub place_value_more : (f : ℕ → ℕ) (xs : List ℕ) (i : ℕ) → i < length xs → place_value (map f (take (i + 1) xs)) ≡ place_value (map f (take i xs)) * 10 + f (get_or xs i 0)
place_value_more f xs i h = ap place_value (map_more f xs i 0 h) ∙ place_value_push (map f (take i xs)) (f (get_or xs i 0))

-- ---- the digits of a number

pub length-digits : (k n : ℕ) → length (lowest_digits k n) ≡ k
length-digits zero n = refl
length-digits (suc k) n = ap suc (length-digits k n)

-- the lowest places, and one digit above them
pub mod-one_more : (n p : ℕ) → 0 < p → n % (p * 10) ≡ (n / p % 10) * p + n % p
mod-one_more n p h =
    let low = mod-lt n h in
    let digit : n / p % 10 < 10 = omega arith in
    let high = div-add-mod' (n / p) 10 in
    let whole = div-add-mod' n p in
    let parts : (n / p / 10) * 10 * p + (n / p % 10) * p ≡ n / p * p = omega (arith, ap (λ q. q * p) high) in
    let split : n ≡ (n / p / 10) * (p * 10) + ((n / p % 10) * p + n % p) = omega arith in
    ap (λ m. m % (p * 10)) split ∙ mod-mul-add (n / p / 10) (p * 10) ((n / p % 10) * p + n % p) (mul-add-lt (n / p % 10) p (n % p) 10 digit low)

pub place_value-digits : (k n : ℕ) → place_value (lowest_digits k n) ≡ n % 10 ^ k
place_value-digits zero n = omega arith
place_value-digits (suc k) n =
    ap₂ (λ j v. n / 10 ^ k % 10 * 10 ^ j + v) (length-digits k n) (place_value-digits k n)
    ∙ sym (mod-one_more n (10 ^ k) (ten_pos k)) ∙ ap (λ p. n % p) (sym (pow-suc 10 k))

-- the digit at a place
pub get_or-digits : (k n i : ℕ) → i < k → get_or (lowest_digits k n) i 0 ≡ n / 10 ^ (k - 1 - i) % 10
get_or-digits zero n i h = absurd (omega arith)
get_or-digits (suc k) n zero h = let e : suc k - 1 - 0 ≡ k = omega arith in ap (λ j. n / 10 ^ j % 10) (sym e)
get_or-digits (suc k) n (suc i) h = let e : suc k - 1 - suc i ≡ k - 1 - i = omega arith in get_or-digits k n i (omega arith) ∙ ap (λ j. n / 10 ^ j % 10) (sym e)

pub div-ten_more : (n j : ℕ) → n / 10 ^ j / 10 ≡ n / 10 ^ (j + 1)
div-ten_more n j = div-div-eq-div-mul n (10 ^ j) 10 ∙ ap (λ p. n / p) (sym (pow-add 10 j 1))

-- ---- digits below ten and their number

pub place_value-below : (ds : List ℕ) → ((i : ℕ) → get_or ds i 0 < 10) → place_value ds < 10 ^ length ds
place_value-below [] h = omega arith
place_value-below (d ∷ ds) h =
    let rest = place_value-below ds (λ i. h (suc i)) in
    let whole = mul-add-lt d (10 ^ length ds) (place_value ds) 10 (h 0) rest in
    rw (pow-suc 10 (length ds)) whole

-- a digit above a place leaves what is there
mod-high : (d q r : ℕ) → (d * (q * 10) + r) % 10 ≡ r % 10
mod-high d q r = omega arith

-- the digit of a number at a place, counted from the right
pub place_digit : (ds : List ℕ) → ((i : ℕ) → get_or ds i 0 < 10) → (i : ℕ) → i < length ds → place_value ds / 10 ^ i % 10 ≡ get_or ds (length ds - 1 - i) 0
place_digit [] h i l = absurd (omega arith)
place_digit (d ∷ ds) h i l =
    let n = length ds in
    let p = 10 ^ i in
    let rest = place_value-below ds (λ j. h (suc j)) in
    elim (cases_lt i n) [
      | inl low ↦
          let split : 10 ^ n ≡ 10 ^ (n - 1 - i) * 10 * p =
          let e : n ≡ ((n - 1 - i) + 1) + i = omega arith in
          ap (λ k. 10 ^ k) e ∙ pow-add 10 ((n - 1 - i) + 1) i ∙ ap (λ q. q * p) (pow-add 10 (n - 1 - i) 1) in
          let top : d * 10 ^ n + place_value ds ≡ place_value ds + d * (10 ^ (n - 1 - i) * 10) * p = ap (λ q. d * q + place_value ds) split ∙ omega arith in
          let at : suc n - 1 - i ≡ suc (n - 1 - i) = omega arith in
          ap (λ m. m / p % 10) top
          ∙ ap (λ m. m % 10) (add-mul-div_right (place_value ds) (d * (10 ^ (n - 1 - i) * 10)) (ten_pos i) ∙ add_comm (place_value ds / p) (d * (10 ^ (n - 1 - i) * 10)))
          ∙ mod-high d (10 ^ (n - 1 - i)) (place_value ds / p)
          ∙ place_digit ds (λ j. h (suc j)) i low
          ∙ ap (λ k. get_or (d ∷ ds) k 0) (sym at)
      | inr high ↦
          let here : i ≡ n = omega arith in
          let at : suc n - 1 - i ≡ 0 = omega arith in
          ap (λ j. (d * 10 ^ n + place_value ds) / 10 ^ j % 10) here
          ∙ ap (λ m. m % 10) (div-mul-add d (10 ^ n) (place_value ds) rest)
          ∙ mod-eq_of_lt (h 0)
          ∙ ap (λ k. get_or (d ∷ ds) k 0) (sym at)
    ]

-- each digit of a number is below ten
pub get_or-digits-below : (k n i : ℕ) → get_or (lowest_digits k n) i 0 < 10
get_or-digits-below zero n i = omega arith
get_or-digits-below (suc k) n zero = omega arith
get_or-digits-below (suc k) n (suc i) = get_or-digits-below k n i

-- the digits of a number, from the right
pub digits-from_right : (k n i : ℕ) → i < k → get_or (lowest_digits k n) (length (lowest_digits k n) - 1 - i) 0 ≡ n / 10 ^ i % 10
digits-from_right k n i h =
    let e : k - 1 - (k - 1 - i) ≡ i = omega arith in
    ap (λ m. get_or (lowest_digits k n) (m - 1 - i) 0) (length-digits k n) ∙ get_or-digits k n (k - 1 - i) (omega arith) ∙ ap (λ j. n / 10 ^ j % 10) e
