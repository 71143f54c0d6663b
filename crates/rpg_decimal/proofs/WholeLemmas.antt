-- Whole numbers: their signs and sizes, powers of ten, and quotients.
use Rattle.std.proofs.Common.{◌≡◌, ℕ, zero, suc, ◌+◌, ◌-◌, ◌*◌, ◌/◌, ◌%◌, ◌^◌, ◌<◌, ◌≤◌, Bool, true, false, ℤ, pos, negsuc, neg_ℤ, ◌+ℤ◌, ◌-ℤ◌, ◌*ℤ◌, unsigned_abs, int_rem, refl, sym, ap, ◌∙◌, ap₂, subst, arith, mul_assoc, zero-mul, FitsSigned, to_z, of_z, to_z-of_z, div-lt_iff_lt-mul, le-mul_of_pos_right, mul-pos, mod-lt, div-le_self, div-one, mul-le-mul_left, List, [], ◌∷◌, length, get_or, ◌==◌, ◌&&◌, mod-eq_of_lt, mul-one}
use Rattle.std.proofs.lemmas.Bool.{eqb-true, and_parts}
use Rattle.std.proofs.Math.Nat.{pow-le-pow_right, one-le-pow, div-div-eq-div-mul, mul-div-mul_right, mod-mod_of_dvd, dvd-mul_left}
use Rattle.std.proofs.lemmas.Nat.{mul-mod_first, pow-add}
use Rattle.std.proofs.lemmas.Int.{ints}
use Rattle.std.specs.Int.{w64, w128, ◌∣◌}
use native.Mathlib.Nat.{zero-mod}
use lib.Signed.{mag}
use Rattle.rpg_decimal_words.specs.Whole.{with_sign_of, rounded_quotient, fit}
use Rattle.rpg_decimal_words.specs.Fraction.{with_decimals, aligned_number, stored_number}

-- ---- powers of ten

pub ten_pos : (k : ℕ) → 0 < 10 ^ k
ten_pos k = one-le-pow k 10 (omega arith)

pub ten_le : (j k : ℕ) → j ≤ k → 10 ^ j ≤ 10 ^ k
ten_le j k h = pow-le-pow_right (omega arith) h

-- ---- signs and sizes

-- a value comes back from its bits
pub back : {z : ℤ} → mag z < 2 ^ 127 → to_z w128 (of_z w128 z) ≡ z
back h = to_z-of_z {w = w128} (record { sfits = h })

pub back_64 : {z : ℤ} → mag z < 2 ^ 63 → to_z w64 (of_z w64 z) ≡ z
back_64 h = to_z-of_z {w = w64} (record { sfits = h })

-- a small magnitude leaves room for a sign
pub mag_below : (z : ℤ) (k : ℕ) → unsigned_abs z < k → mag z < k
mag_below (pos n) k h = h
mag_below (negsuc n) k h = omega arith

pub unsigned_abs-neg : (n : ℕ) → unsigned_abs (neg_ℤ (pos n)) ≡ n
unsigned_abs-neg zero = refl
unsigned_abs-neg (suc n) = refl

pub unsigned_abs-with_sign : (n : ℤ) (size : ℕ) → unsigned_abs (with_sign_of n size) ≡ size
unsigned_abs-with_sign (pos a) size = refl
unsigned_abs-with_sign (negsuc a) size = unsigned_abs-neg size

-- a product with a natural number keeps the sign
pub times_is : (n : ℤ) (c : ℕ) → n *ℤ pos c ≡ with_sign_of n (unsigned_abs n * c)
times_is (pos a) c = refl
times_is (negsuc a) c = refl

pub sign_again : (n : ℤ) (s t : ℕ) → 0 < s → with_sign_of (with_sign_of n s) t ≡ with_sign_of n t
sign_again (pos a) s t h = refl
sign_again (negsuc a) zero t h = absurd (omega arith)
sign_again (negsuc a) (suc s) t h = refl

-- the sign of a product with a number above 0
pub sign-times : (n : ℤ) (c t : ℕ) → 0 < c → with_sign_of (n *ℤ pos c) t ≡ with_sign_of n t
sign-times (pos a) c t h = refl
sign-times (negsuc a) c t h = ap (λ z. with_sign_of z t) (times_is (negsuc a) c) ∙ sign_again (negsuc a) (suc a * c) t (mul-pos (omega arith) h)

pub unsigned_abs-times : (n : ℤ) (c : ℕ) → unsigned_abs (n *ℤ pos c) ≡ unsigned_abs n * c
unsigned_abs-times n c = ap unsigned_abs (times_is n c) ∙ unsigned_abs-with_sign n (unsigned_abs n * c)

-- a number is its size under its sign
pub sign_and_size : (n : ℤ) → with_sign_of n (unsigned_abs n) ≡ n
sign_and_size (pos a) = refl
sign_and_size (negsuc a) = refl

-- ---- quotients by sign and size

-- the size of a quotient
abbrev pub rounded_size : Bool → ℕ → ℕ → ℕ
rounded_size true m v = (2 * m + v) / (2 * v)
rounded_size false m v = m / v

pub rounded_is : (half : Bool) (u : ℤ) (v : ℕ) → rounded_quotient half u v ≡ with_sign_of u (rounded_size half (unsigned_abs u) v)
rounded_is true u v = refl
rounded_is false (pos a) v = refl
rounded_is false (negsuc a) v = refl

pub fit_is : (u : ℤ) (k : ℕ) → fit u k ≡ with_sign_of u (unsigned_abs u % 10 ^ k)
fit_is (pos a) k = refl
fit_is (negsuc a) k = refl

-- a number that is short enough loses no digit
pub fit_same : (n : ℤ) (k : ℕ) → unsigned_abs n < 10 ^ k → n ≡ fit n k
fit_same n k h = sym (fit_is n k ∙ ap (with_sign_of n) (mod-eq_of_lt h) ∙ sign_and_size n)

-- half adjusting adds half of the divisor
pub half_code : (m v : ℕ) → (m + v / 2) / v ≡ (2 * m + v) / (2 * v)
half_code m v =
    let e : (2 * m + v) / 2 ≡ m + v / 2 = omega arith in
    ap (λ x. x / v) (sym e) ∙ div-div-eq-div-mul (2 * m + v) 2 v

-- and gives no more than what is divided
pub half_bound : (m v : ℕ) → 0 < v → (m + v / 2) / v ≤ m
half_bound m v h =
    let grows : m ≤ m * v = le-mul_of_pos_right m h in
    let below : (m + v / 2) / v < m + 1 = (div-lt_iff_lt-mul h).1 (omega arith) in
    omega arith

pub half_is : (half : Bool) (n : ℤ) (v size : ℕ) → half ≡ true → size ≡ unsigned_abs n → with_sign_of n ((size + v / 2) / v) ≡ rounded_quotient half n v
half_is half n v size h e =
    ap (λ s. with_sign_of n ((s + v / 2) / v)) e ∙ ap (with_sign_of n) (half_code (unsigned_abs n) v) ∙ ap (λ b. rounded_quotient b n v) (sym h)

rounded_size-le : (half : Bool) (m v : ℕ) → 0 < v → rounded_size half m v ≤ m
rounded_size-le true m v h = rw (sym (half_code m v)) (half_bound m v h)
rounded_size-le false m v h = div-le_self m v

-- a quotient is no greater than what is divided
pub rounded-le : (half : Bool) (n : ℤ) (v : ℕ) → 0 < v → unsigned_abs (rounded_quotient half n v) ≤ unsigned_abs n
rounded-le half n v h = rw (rounded_is half n v, unsigned_abs-with_sign n (rounded_size half (unsigned_abs n) v)) (rounded_size-le half (unsigned_abs n) v h)

-- a factor of both sides of a quotient is cancelled
pub rounded_size-scaled : (half : Bool) (m v c : ℕ) → 0 < c → rounded_size half (m * c) (v * c) ≡ rounded_size half m v
rounded_size-scaled true m v c h =
    let top : 2 * (m * c) + v * c ≡ (2 * m + v) * c = omega arith in
    let bottom : 2 * (v * c) ≡ (2 * v) * c = omega arith in
    ap₂ (λ x y. x / y) top bottom ∙ mul-div-mul_right (2 * m + v) (2 * v) h
rounded_size-scaled false m v c h = mul-div-mul_right m v h

rounded_size-one : (half : Bool) (m : ℕ) → rounded_size half m 1 ≡ m
rounded_size-one true m = omega arith
rounded_size-one false m = div-one m

-- a quotient of a product with a number above 0
pub rounded-times : (half : Bool) (n : ℤ) (t v : ℕ) → 0 < t → rounded_quotient half (n *ℤ pos t) v ≡ with_sign_of n (rounded_size half (unsigned_abs n * t) v)
rounded-times half n t v h =
    rounded_is half (n *ℤ pos t) v ∙ sign-times n t _ h ∙ ap (λ m. with_sign_of n (rounded_size half m v)) (unsigned_abs-times n t)

-- ---- alignment

pub ten-split : (j k : ℕ) → j ≤ k → 10 ^ k ≡ 10 ^ (k - j) * 10 ^ j
ten-split j k h =
    let e : k ≡ (k - j) + j = omega arith in
    ap (λ n. 10 ^ n) e ∙ pow-add 10 (k - j) j

-- to more decimals: a product
pub aligned_up : (half : Bool) (n : ℤ) (from to : ℕ) → from ≤ to → aligned_number half to (with_decimals n from) ≡ with_sign_of n (unsigned_abs n * 10 ^ (to - from))
aligned_up half n from to h =
    let p = 10 ^ (to - from) in
    let q = 10 ^ from in
    let m = unsigned_abs n in
    let top : m * 10 ^ to ≡ (m * p) * q = ap (λ x. m * x) (ten-split from to h) ∙ sym (mul_assoc m p q) in
    let bottom : q ≡ 1 * q = omega arith in
    rounded-times half n (10 ^ to) q (ten_pos to)
    ∙ ap (with_sign_of n) (ap₂ (rounded_size half) top bottom ∙ rounded_size-scaled half (m * p) 1 q (ten_pos from) ∙ rounded_size-one half (m * p))

-- to as many decimals: the number itself
pub aligned_same : (half : Bool) (n : ℤ) (from to : ℕ) → from ≡ to → n ≡ aligned_number half to (with_decimals n from)
aligned_same half n from to h =
    let none : to - from ≡ 0 = omega arith in
    let shift : unsigned_abs n * 10 ^ (to - from) ≡ unsigned_abs n = ap (λ j. unsigned_abs n * 10 ^ j) none ∙ mul-one (unsigned_abs n) in
    sym (aligned_up half n from to (omega arith) ∙ ap (with_sign_of n) shift ∙ sign_and_size n)

-- to fewer decimals: a quotient
pub aligned_down : (half : Bool) (n : ℤ) (from to : ℕ) → to ≤ from → aligned_number half to (with_decimals n from) ≡ rounded_quotient half n (10 ^ (from - to))
aligned_down half n from to h =
    let p = 10 ^ (from - to) in
    let q = 10 ^ to in
    let m = unsigned_abs n in
    rounded-times half n q (10 ^ from) (ten_pos to)
    ∙ ap (with_sign_of n) (ap (rounded_size half (m * q)) (ten-split to from h) ∙ rounded_size-scaled half m p q (ten_pos to))
    ∙ sym (rounded_is half n p)

-- ---- the lowest digits

neg-times : (r p : ℕ) → neg_ℤ (pos r) *ℤ pos p ≡ neg_ℤ (pos (r * p))
neg-times zero p = ap pos (zero-mul p) ∙ sym (ap (λ x. neg_ℤ (pos x)) (zero-mul p))
neg-times (suc r) p = refl

rem-neg : (x l : ℕ) → int_rem (neg_ℤ (pos x)) (pos l) ≡ neg_ℤ (pos (x % l))
rem-neg zero l = ap pos (zero-mod l) ∙ sym (ap (λ y. neg_ℤ (pos y)) (zero-mod l))
rem-neg (suc x) l = refl

mod-drop : (a p k len : ℕ) → len ≤ k → a % 10 ^ k * p % 10 ^ len ≡ a * p % 10 ^ len
mod-drop a p k len h =
    let divides : 10 ^ len ∣ 10 ^ k = subst (λ x. 10 ^ len ∣ x) (sym (ten-split len k h)) (dvd-mul_left (10 ^ len) (10 ^ (k - len))) in
    sym (mul-mod_first (a % 10 ^ k) p (10 ^ len)) ∙ ap (λ x. x * p % 10 ^ len) (mod-mod_of_dvd (10 ^ len) a divides) ∙ mul-mod_first a p (10 ^ len)

-- digits that are dropped before a shift are those that are dropped after it
pub fit-times : (n : ℤ) (p k len : ℕ) → len ≤ k → fit (fit n k *ℤ pos p) len ≡ fit (n *ℤ pos p) len
fit-times (pos a) p k len h = ap pos (mod-drop a p k len h)
fit-times (negsuc a) p k len h =
    ap (λ z. fit z len) (neg-times (suc a % 10 ^ k) p) ∙ rem-neg (suc a % 10 ^ k * p) (10 ^ len)
    ∙ ap (λ x. neg_ℤ (pos x)) (mod-drop (suc a) p k len h) ∙ sym (rem-neg (suc a * p) (10 ^ len))

pub fit-below : (n : ℤ) (k : ℕ) → unsigned_abs (fit n k) < 10 ^ k
fit-below n k = rw (fit_is n k, unsigned_abs-with_sign n (unsigned_abs n % 10 ^ k)) (mod-lt (unsigned_abs n) (ten_pos k))

-- a shift up may drop the highest digits first
pub stored-early : (half : Bool) (n : ℤ) (from to k len : ℕ) → from ≤ to → len ≤ k → stored_number half to len (with_decimals (fit n k) from) ≡ stored_number half to len (with_decimals n from)
stored-early half n from to k len h d =
    let p = 10 ^ (to - from) in
    ap (λ z. fit z len) (aligned_up half (fit n k) from to h ∙ sym (times_is (fit n k) p))
    ∙ fit-times n p k len d
    ∙ ap (λ z. fit z len) (times_is n p ∙ sym (aligned_up half n from to h))

-- ---- sizes of what is shifted

-- a number of fifteen digits, shifted by at most eighteen places
pub shifted-below : (m k : ℕ) → m < 10 ^ 15 → k ≤ 18 → m * 10 ^ k < 10 ^ 33
shifted-below m k h d =
    let ten = ten_le k 18 d in
    let more : m * 10 ^ k ≤ m * 10 ^ 18 = mul-le-mul_left m ten in
    omega arith

-- ---- fractions whose bottoms are powers of ten

-- the same value over one power of ten
pub stored-joined : (half : Bool) (dec len : ℕ) (t : ℤ) (j k : ℕ) → stored_number half dec len (with_decimals t (j + k)) ≡ stored_number half dec len (record { top = t; bottom = 10 ^ j * 10 ^ k })
stored-joined half dec len t j k = ap (λ b. stored_number half dec len (record { top = t; bottom = b })) (pow-add 10 j k)

-- a sum as the code makes it, of numbers that come back from their bits
pub sum_is : (x y u v : ℤ) → mag x < 2 ^ 127 → mag y < 2 ^ 127 → unsigned_abs x < 10 ^ 33 → unsigned_abs y < 10 ^ 33 → x ≡ u → y ≡ v → to_z w128 (of_z w128 (to_z w128 (of_z w128 x) +ℤ to_z w128 (of_z w128 y))) ≡ u +ℤ v
sum_is x y u v hx hy small_x small_y ex ey =
    let fits : FitsSigned w128 (x +ℤ y) = omega (arith, ints) in
    rw (back {z = x} hx, back {z = y} hy) (to_z-of_z fits ∙ ap₂ (◌+ℤ◌) ex ey)

pub difference_is : (x y u v : ℤ) → mag x < 2 ^ 127 → mag y < 2 ^ 127 → unsigned_abs x < 10 ^ 33 → unsigned_abs y < 10 ^ 33 → x ≡ u → y ≡ v → to_z w128 (of_z w128 (to_z w128 (of_z w128 x) -ℤ to_z w128 (of_z w128 y))) ≡ u -ℤ v
difference_is x y u v hx hy small_x small_y ex ey =
    let fits : FitsSigned w128 (x -ℤ y) = omega (arith, ints) in
    rw (back {z = x} hx, back {z = y} hy) (to_z-of_z fits ∙ ap₂ (◌-ℤ◌) ex ey)

pub sum_fits : (x y : ℤ) → mag x < 2 ^ 127 → mag y < 2 ^ 127 → unsigned_abs x < 10 ^ 33 → unsigned_abs y < 10 ^ 33 → FitsSigned w128 (to_z w128 (of_z w128 x) +ℤ to_z w128 (of_z w128 y))
sum_fits x y hx hy small_x small_y = rw (back {z = x} hx, back {z = y} hy) (omega (arith, ints))

pub sum_below : (x y : ℤ) → mag x < 2 ^ 127 → mag y < 2 ^ 127 → unsigned_abs x < 10 ^ 33 → unsigned_abs y < 10 ^ 33 → unsigned_abs (to_z w128 (of_z w128 (to_z w128 (of_z w128 x) +ℤ to_z w128 (of_z w128 y)))) < 10 ^ 36
sum_below x y hx hy small_x small_y = rw (sum_is x y x y hx hy small_x small_y refl refl) (omega (arith, ints))

pub difference_fits : (x y : ℤ) → mag x < 2 ^ 127 → mag y < 2 ^ 127 → unsigned_abs x < 10 ^ 33 → unsigned_abs y < 10 ^ 33 → FitsSigned w128 (to_z w128 (of_z w128 x) -ℤ to_z w128 (of_z w128 y))
difference_fits x y hx hy small_x small_y = rw (back {z = x} hx, back {z = y} hy) (omega (arith, ints))

pub difference_below : (x y : ℤ) → mag x < 2 ^ 127 → mag y < 2 ^ 127 → unsigned_abs x < 10 ^ 33 → unsigned_abs y < 10 ^ 33 → unsigned_abs (to_z w128 (of_z w128 (to_z w128 (of_z w128 x) -ℤ to_z w128 (of_z w128 y)))) < 10 ^ 36
difference_below x y hx hy small_x small_y = rw (difference_is x y x y hx hy small_x small_y refl refl) (omega (arith, ints))

-- ---- the table of powers of ten

-- each number is ten to its place, counted from k
abbrev pub are_tens_from : ℕ → List ℕ → Bool
are_tens_from k [] = true
are_tens_from k (x ∷ xs) = x == 10 ^ k && are_tens_from (suc k) xs

pub ten_at : (xs : List ℕ) (k i j : ℕ) → are_tens_from k xs ≡ true → i < length xs → j ≡ k + i → get_or xs i 0 ≡ 10 ^ j
ten_at [] k i j t h e = absurd (omega arith)
ten_at (x ∷ xs) k zero j t h e =
    let here : k ≡ j = omega arith in
    eqb-true x (10 ^ k) (and_parts (x == 10 ^ k) (are_tens_from (suc k) xs) t).0 ∙ ap (λ j. 10 ^ j) here
ten_at (x ∷ xs) k (suc i) j t h e = ten_at xs (suc k) i j (and_parts (x == 10 ^ k) (are_tens_from (suc k) xs) t).1 (omega arith) (omega arith)
