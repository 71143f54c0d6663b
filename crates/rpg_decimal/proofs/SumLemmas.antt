-- Sums, differences and orders of numbers with as many decimals as the one of them that has more.
use Rattle.std.proofs.Common.{◌≡◌, ℕ, zero, suc, ◌+◌, ◌-◌, ◌*◌, ◌^◌, ◌<◌, min, max, Bool, ℤ, pos, negsuc, ◌+ℤ◌, ◌-ℤ◌, ◌*ℤ◌, ◌<ℤ◌, unsigned_abs, refl, sym, ap, ap₂, ◌∙◌, arith, mul-pos, Ordering, Less, Equal, Greater}
use Rattle.std.proofs.Math.IntN.{*ℤ_comm, *ℤ-zero, suc_ℤ-*ℤ}
use Rattle.std.proofs.Math.Nat.{mul-lt-mul_of_pos_right}
use Rattle.std.proofs.lemmas.Nat.{pow-add}
use Rattle.std.proofs.lemmas.Int.{ints}
use Rattle.std.proofs.lemmas.Cmp.{int_ranked}
use Rattle.std.specs.Ordering.{int_cmp, MatchOrdering}
use Rattle.std.specs.Cmp.{int_cmp_is}
use Rattle.rpg_decimal_words.specs.Whole.{rounded_quotient, fit, with_sign_of}
use Rattle.rpg_decimal_words.specs.Fraction.{with_decimals, plus, minus, stored_number}
use Rattle.rpg_decimal.proofs.WholeLemmas.{ten_pos, aligned_same, rounded_size, rounded_size-scaled, rounded-times}
use Rattle.rpg_decimal.proofs.QuotientLemmas.{times-times}

-- ---- products of sums

times_suc : (x : ℤ) (c : ℕ) → x *ℤ pos (suc c) ≡ x *ℤ pos c +ℤ x
times_suc x c = *ℤ_comm x (pos (suc c)) ∙ suc_ℤ-*ℤ (pos c) x ∙ ap (λ z. z +ℤ x) (*ℤ_comm (pos c) x)

sum-times : (x y : ℤ) (c : ℕ) → (x +ℤ y) *ℤ pos c ≡ x *ℤ pos c +ℤ y *ℤ pos c
sum-times x y zero = *ℤ-zero (x +ℤ y) ∙ sym (ap₂ (◌+ℤ◌) (*ℤ-zero x) (*ℤ-zero y))
sum-times x y (suc c) =
    let whole = times_suc (x +ℤ y) c in
    let left = times_suc x c in
    let right = times_suc y c in
    let before = sum-times x y c in
    omega (arith, ints)

difference-times : (x y : ℤ) (c : ℕ) → (x -ℤ y) *ℤ pos c ≡ x *ℤ pos c -ℤ y *ℤ pos c
difference-times x y c =
    let back : (x -ℤ y) +ℤ y ≡ x = omega (arith, ints) in
    let parts : x *ℤ pos c ≡ (x -ℤ y) *ℤ pos c +ℤ y *ℤ pos c = ap (λ z. z *ℤ pos c) (sym back) ∙ sum-times (x -ℤ y) y c in
    omega (arith, ints)

-- ---- fractions

-- a factor of the top and the bottom is cancelled
stored-scaled : (half : Bool) (dec len : ℕ) (t : ℤ) (b c : ℕ) → 0 < c
    → stored_number half dec len (record { top = t *ℤ pos c; bottom = b * c }) ≡ stored_number half dec len (record { top = t; bottom = b })
stored-scaled half dec len t b c h =
    let p = 10 ^ dec in
    let m = unsigned_abs t in
    let turned : m * (c * p) ≡ (m * p) * c = omega arith in
    ap (λ z. fit z len)
    (ap (λ z. rounded_quotient half z (b * c)) (times-times t c p)
    ∙ rounded-times half t (c * p) (b * c) (mul-pos h (ten_pos dec))
    ∙ ap (with_sign_of t) (ap (λ x. rounded_size half x (b * c)) turned ∙ rounded_size-scaled half (m * p) b c h)
    ∙ sym (rounded-times half t p b (ten_pos dec)))

-- the decimals that the one number has more, and those that the other has at least
split-decimals : (i j : ℕ) → 10 ^ j ≡ 10 ^ (max i j - i) * 10 ^ min i j
split-decimals i j =
    let e : j ≡ (max i j - i) + min i j = omega arith in
    ap (λ k. 10 ^ k) e ∙ pow-add 10 (max i j - i) (min i j)

split-decimals_other : (i j : ℕ) → 10 ^ i ≡ 10 ^ (max i j - j) * 10 ^ min i j
split-decimals_other i j =
    let e : i ≡ (max i j - j) + min i j = omega arith in
    ap (λ k. 10 ^ k) e ∙ pow-add 10 (max i j - j) (min i j)

bottom_is : (i j : ℕ) → 10 ^ i * 10 ^ j ≡ 10 ^ max i j * 10 ^ min i j
bottom_is i j =
    let e : i + j ≡ max i j + min i j = omega arith in
    sym (pow-add 10 i j) ∙ ap (λ k. 10 ^ k) e ∙ pow-add 10 (max i j) (min i j)

-- a number widened to all the decimals, by those that it lacks and then by the rest
widened-left : (x : ℤ) (i j : ℕ) → x *ℤ pos (10 ^ j) ≡ x *ℤ pos (10 ^ (max i j - i)) *ℤ pos (10 ^ min i j)
widened-left x i j = ap (λ p. x *ℤ pos p) (split-decimals i j) ∙ sym (times-times x (10 ^ (max i j - i)) (10 ^ min i j))

widened-right : (y : ℤ) (i j : ℕ) → y *ℤ pos (10 ^ i) ≡ y *ℤ pos (10 ^ (max i j - j)) *ℤ pos (10 ^ min i j)
widened-right y i j = ap (λ p. y *ℤ pos p) (split-decimals_other i j) ∙ sym (times-times y (10 ^ (max i j - j)) (10 ^ min i j))

-- what is stored of a fraction whose decimals are more than are needed
stored-narrowed : (half : Bool) (dec len : ℕ) (t u : ℤ) (i j : ℕ) → u ≡ t *ℤ pos (10 ^ min i j)
    → stored_number half dec len (with_decimals t (max i j)) ≡ stored_number half dec len (record { top = u; bottom = 10 ^ i * 10 ^ j })
stored-narrowed half dec len t u i j e =
    sym (ap₂ (λ x b. stored_number half dec len (record { top = x; bottom = b })) e (bottom_is i j) ∙ stored-scaled half dec len t (10 ^ max i j) (10 ^ min i j) (ten_pos (min i j)))

pub stored-sum : (half : Bool) (dec len : ℕ) (x y : ℤ) (i j : ℕ)
    → stored_number half dec len (with_decimals (x *ℤ pos (10 ^ (max i j - i)) +ℤ y *ℤ pos (10 ^ (max i j - j))) (max i j)) ≡ stored_number half dec len (plus (with_decimals x i) (with_decimals y j))
stored-sum half dec len x y i j =
    stored-narrowed half dec len _ _ i j
    (ap₂ (◌+ℤ◌) (widened-left x i j) (widened-right y i j) ∙ sym (sum-times (x *ℤ pos (10 ^ (max i j - i))) (y *ℤ pos (10 ^ (max i j - j))) (10 ^ min i j)))

pub stored-difference : (half : Bool) (dec len : ℕ) (x y : ℤ) (i j : ℕ)
    → stored_number half dec len (with_decimals (x *ℤ pos (10 ^ (max i j - i)) -ℤ y *ℤ pos (10 ^ (max i j - j))) (max i j)) ≡ stored_number half dec len (minus (with_decimals x i) (with_decimals y j))
stored-difference half dec len x y i j =
    stored-narrowed half dec len _ _ i j
    (ap₂ (◌-ℤ◌) (widened-left x i j) (widened-right y i j) ∙ sym (difference-times (x *ℤ pos (10 ^ (max i j - i))) (y *ℤ pos (10 ^ (max i j - j))) (10 ^ min i j)))

-- what is stored of numbers that have the target's decimals already
pub like-sum : (half : Bool) (len : ℕ) (x y : ℤ) (i j dec : ℕ) → i ≡ j → j ≡ dec → fit (x +ℤ y) len ≡ stored_number half dec len (plus (with_decimals x i) (with_decimals y j))
like-sum half len x y i j dec left right =
    let p = 10 ^ dec in
    rw (left, right)
    (ap (λ z. fit z len) (aligned_same half (x +ℤ y) dec dec refl)
    ∙ sym (stored-scaled half dec len (x +ℤ y) p p (ten_pos dec))
    ∙ ap (λ t. stored_number half dec len (record { top = t; bottom = p * p })) (sum-times x y p))

pub like-difference : (half : Bool) (len : ℕ) (x y : ℤ) (i j dec : ℕ) → i ≡ j → j ≡ dec → fit (x -ℤ y) len ≡ stored_number half dec len (minus (with_decimals x i) (with_decimals y j))
like-difference half len x y i j dec left right =
    let p = 10 ^ dec in
    rw (left, right)
    (ap (λ z. fit z len) (aligned_same half (x -ℤ y) dec dec refl)
    ∙ sym (stored-scaled half dec len (x -ℤ y) p p (ten_pos dec))
    ∙ ap (λ t. stored_number half dec len (record { top = t; bottom = p * p })) (difference-times x y p))

-- ---- the order

less-scaled : (x y : ℤ) (c : ℕ) → 0 < c → x <ℤ y → (x *ℤ pos c) <ℤ (y *ℤ pos c)
less-scaled (pos a) (pos b) c h less =
    let below : a < b = omega (arith, ints) in
    let scaled : a * c < b * c = mul-lt-mul_of_pos_right below h in
    omega (arith, ints)
less-scaled (pos a) (negsuc b) c h less = absurd (omega (arith, ints))
less-scaled (negsuc a) (pos b) c h less =
    let some : 0 < suc a * c = mul-pos (omega arith) h in
    omega (arith, ints)
less-scaled (negsuc a) (negsuc b) c h less =
    let below : suc b < suc a = omega (arith, ints) in
    let scaled : suc b * c < suc a * c = mul-lt-mul_of_pos_right below h in
    omega (arith, ints)

order-scaled : (r : Ordering) (x y : ℤ) (c : ℕ) → 0 < c → MatchOrdering r (x <ℤ y) (x ≡ y) (y <ℤ x) → MatchOrdering r ((x *ℤ pos c) <ℤ (y *ℤ pos c)) (x *ℤ pos c ≡ y *ℤ pos c) ((y *ℤ pos c) <ℤ (x *ℤ pos c))
order-scaled Less x y c h o = less-scaled x y c h o
order-scaled Equal x y c h o = ap (λ z. z *ℤ pos c) o
order-scaled Greater x y c h o = less-scaled y x c h o

pub compared-scaled : (x y : ℤ) (c : ℕ) → 0 < c → int_cmp x y ≡ int_cmp (x *ℤ pos c) (y *ℤ pos c)
compared-scaled x y c h = int_cmp_is (x *ℤ pos c) (y *ℤ pos c) (int_cmp x y) (order-scaled (int_cmp x y) x y c h (int_ranked x y (int_cmp x y) refl))
