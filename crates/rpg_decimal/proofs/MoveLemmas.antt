-- Moves of places.
use Rattle.std.proofs.Common.{◌≡◌, ℕ, zero, suc, ◌+◌, ◌-◌, ◌*◌, ◌/◌, ◌%◌, ◌^◌, ◌<◌, ◌≤◌, min, true, ℤ, pos, negsuc, List, ◌∷◌, ◌++◌, length, get_or, take, drop, refl, sym, ap, ap₂, ◌∙◌, arith, mod-eq_of_lt, mod-lt, div-lt_iff_lt-mul, ◌==◌, slice_index, inl, inr, length-append, length-drop}
use Rattle.std.proofs.Math.Nat.{div-div-eq-div-mul}
use Rattle.std.proofs.lemmas.Bool.{le-ltb, cases_lt}
use Rattle.std.proofs.lemmas.Nat.{pow-add, mul-add-lt}
use Rattle.std.proofs.lemmas.List.{take_min, length-take-le, get_or_append_left, get_or-take}
use Rattle.std.specs.Int.{is_negative}
use Rattle.rpg_decimal_words.specs.Move.{overlay_right, overlay_left}
use Rattle.rpg_decimal_words.specs.Place.{place_value, lowest_digits, signed_number}
use Rattle.rpg_decimal_words.specs.Whole.{with_sign_of}
use Rattle.rpg_decimal_words.specs.Zoned.{may_stand, is_numeric, IsFirstBad}
use Rattle.rpg_decimal.proofs.ZonedLemmas.{valid_from_numeric}
use Rattle.rpg_decimal.proofs.PlaceLemmas.{place_value-append, place_value-digits, length-digits}
use Rattle.rpg_decimal.proofs.WholeLemmas.{ten_pos}

-- ---- parts of the digits of a number

pub div-tens : (m j k : ℕ) → m / 10 ^ j / 10 ^ k ≡ m / 10 ^ (j + k)
div-tens m j k = div-div-eq-div-mul m (10 ^ j) (10 ^ k) ∙ ap (λ p. m / p) (sym (pow-add 10 j k))

take-digits : (j n m : ℕ) → j ≤ n → take j (lowest_digits n m) ≡ lowest_digits j (m / 10 ^ (n - j))
take-digits zero n m h = refl
take-digits (suc j) zero m h = absurd (omega arith)
take-digits (suc j) (suc n) m h =
    let same : suc n - suc j ≡ n - j = omega arith in
    let whole : n - j + j ≡ n = omega arith in
    ap₂ (λ x xs. x % 10 ∷ xs) (sym (div-tens m (n - j) j ∙ ap (λ k. m / 10 ^ k) whole)) (take-digits j n m (omega arith))
    ∙ ap (λ k. lowest_digits (suc j) (m / 10 ^ k)) (sym same)

drop-digits : (j n m : ℕ) → drop j (lowest_digits n m) ≡ lowest_digits (n - j) m
drop-digits zero n m = let same : n - 0 ≡ n = omega arith in ap (λ k. lowest_digits k m) (sym same)
drop-digits (suc j) zero m = let same : 0 - suc j ≡ 0 = omega arith in ap (λ k. lowest_digits k m) (sym same)
drop-digits (suc j) (suc n) m = let same : suc n - suc j ≡ n - j = omega arith in drop-digits j n m ∙ ap (λ k. lowest_digits k m) (sym same)

-- the front of a number below 10 ^ (j + k)
front-below : (m j k : ℕ) → m < 10 ^ (j + k) → m / 10 ^ k < 10 ^ j
front-below m j k h = (div-lt_iff_lt-mul (ten_pos k)).1 (rw (sym (pow-add 10 j k)) h)

-- ---- the numbers of overlaid digits

-- so many places from one number, before so many from another
joined_size : (j k m n : ℕ) → m < 10 ^ j → place_value (lowest_digits j m ++ lowest_digits k n) ≡ m * 10 ^ k + n % 10 ^ k
joined_size j k m n h =
    place_value-append (lowest_digits j m) (lowest_digits k n)
    ∙ ap₂ (λ x y. x + y) (ap₂ (λ v p. v * 10 ^ p) (place_value-digits j m ∙ mod-eq_of_lt h) (length-digits k n)) (place_value-digits k n)

joined-below : (j k m n : ℕ) → m < 10 ^ j → m * 10 ^ k + n % 10 ^ k < 10 ^ (k + j)
joined-below j k m n h = rw (pow-add 10 k j) (mul-add-lt m (10 ^ k) (n % 10 ^ k) (10 ^ j) h (mod-lt n (ten_pos k)))

pub moved_right_size : (k len m n : ℕ) → n < 10 ^ len
    → n / 10 ^ min k len * 10 ^ min k len + m % 10 ^ min k len ≡ place_value (overlay_right (lowest_digits k m) (lowest_digits len n))
moved_right_size k len m n h =
    let p = min k len in
    let front : len - (len - k) ≡ p = omega arith in
    let back : k - (k - len) ≡ p = omega arith in
    let whole : len ≡ (len - k) + p = omega arith in
    sym (ap place_value
    (ap₂ (λ x y. take (x - y) (lowest_digits len n) ++ drop (y - x) (lowest_digits k m)) (length-digits len n) (length-digits k m)
    ∙ ap₂ (◌++◌) (take-digits (len - k) len n (omega arith) ∙ ap (λ j. lowest_digits (len - k) (n / 10 ^ j)) front) (drop-digits (k - len) k m ∙ ap (λ j. lowest_digits j m) back))
    ∙ joined_size (len - k) p (n / 10 ^ p) m (front-below n (len - k) p (rw (sym whole) h)))

pub moved_right-below : (k len m n : ℕ) → n < 10 ^ len → n / 10 ^ min k len * 10 ^ min k len + m % 10 ^ min k len < 10 ^ len
moved_right-below k len m n h =
    let p = min k len in
    let whole : len ≡ (len - k) + p = omega arith in
    let turned : p + (len - k) ≡ len = omega arith in
    rw (sym (ap (λ j. 10 ^ j) turned)) (joined-below (len - k) p (n / 10 ^ p) m (front-below n (len - k) p (rw (sym whole) h)))

pub moved_left_size : (k len m n : ℕ) → m < 10 ^ k
    → m / 10 ^ (k - min k len) * 10 ^ (len - min k len) + n % 10 ^ (len - min k len) ≡ place_value (overlay_left (lowest_digits k m) (lowest_digits len n))
moved_left_size k len m n h =
    let p = min k len in
    let rest : len - k ≡ len - p = omega arith in
    let whole : k ≡ p + (k - p) = omega arith in
    let least : min len (length (lowest_digits k m)) ≡ p = ap (min len) (length-digits k m) ∙ omega arith in
    let taken : take len (lowest_digits k m) ≡ lowest_digits p (m / 10 ^ (k - p)) =
    sym (take_min len (lowest_digits k m)) ∙ ap (λ j. take j (lowest_digits k m)) least ∙ take-digits p k m (omega arith) in
    sym (ap place_value
    (ap₂ (λ x y. take x (lowest_digits k m) ++ drop y (lowest_digits len n)) (length-digits len n) (length-digits k m)
    ∙ ap₂ (◌++◌) taken (drop-digits k len n ∙ ap (λ j. lowest_digits j n) rest))
    ∙ joined_size p (len - p) (m / 10 ^ (k - p)) n (front-below m p (k - p) (rw (sym whole) h)))

pub moved_left-below : (k len m n : ℕ) → m < 10 ^ k → m / 10 ^ (k - min k len) * 10 ^ (len - min k len) + n % 10 ^ (len - min k len) < 10 ^ len
moved_left-below k len m n h =
    let p = min k len in
    let whole : k ≡ p + (k - p) = omega arith in
    let turned : (len - p) + p ≡ len = omega arith in
    rw (sym (ap (λ j. 10 ^ j) turned)) (joined-below p (len - p) (m / 10 ^ (k - p)) n (front-below m p (k - p) (rw (sym whole) h)))

-- ---- the sign

pub sign_is : (n : ℤ) (ds : List ℕ) → with_sign_of n (place_value ds) ≡ signed_number (is_negative n) ds
sign_is (pos a) ds = sym (ap (λ b. signed_number b ds) (le-ltb a 0 (omega arith)))
sign_is (negsuc a) ds = refl

-- ---- a text over the text of a number

pub length-overlay_right : (s o : List ℕ) → length (overlay_right s o) ≡ length o
length-overlay_right s o =
    length-append (take (length o - length s) o) (drop (length s - length o) s)
    ∙ ap₂ (λ x y. x + y) (length-take-le (length o - length s) o (omega arith)) (length-drop (length s - length o) s)
    ∙ omega arith

-- the places that the source doesn't reach
pub front-overlay_right : (s o : List ℕ) (i : ℕ) → i + length s < length o → get_or (overlay_right s o) i 0 ≡ get_or o i 0
front-overlay_right s o i h =
    let k = length o - length s in
    let taken = length-take-le k o (omega arith) in
    get_or_append_left (take k o) (drop (length s - length o) s) 0 i (omega arith) ∙ get_or-take k o i 0 (omega arith)

-- a bad place lies in the source
pub bad_in_source : (s o : List ℕ) (spot : ℕ) → is_numeric o ≡ true → IsFirstBad (overlay_right s o) spot → length o ≤ spot + length s
bad_in_source s o spot valid bad =
    elim (cases_lt (spot + length s) (length o)) [
      | inl before ↦
          let here = valid_from_numeric o valid spot (omega arith) in
          let same : may_stand (spot + 1 == length (overlay_right s o)) (slice_index (overlay_right s o) spot) ≡ may_stand (spot + 1 == length o) (slice_index o spot) =
          ap₂ (λ n c. may_stand (spot + 1 == n) c) (length-overlay_right s o) (front-overlay_right s o spot before) in
          absurd (bad.bad (same ∙ here))
      | inr inside ↦ inside
    ]
