-- Products and quotients of signed numbers, and what a division leaves.
use Rattle.std.proofs.Common.{◌≡◌, ℕ, zero, suc, ◌+◌, ◌-◌, ◌*◌, ◌/◌, ◌%◌, ◌^◌, ◌<◌, ◌≤◌, min, max, false, ℤ, pos, negsuc, neg_ℤ, ◌-ℤ◌, ◌*ℤ◌, unsigned_abs, int_div, refl, sym, ap, ap₂, ◌∙◌, arith, mul_assoc, mul_comm, zero-mul, mul-zero, FitsSigned, to_z, of_z, to_z-of_z, mul-pos, mod-lt, div-add-mod', mul-one, mul-div_cancel, pos_of_ne-zero, inl, inr}
use Rattle.std.proofs.Math.Nat.{mul-lt-mul_of_pos_right, mod-le}
use Rattle.std.proofs.lemmas.Bool.{cases_lt}
use Rattle.std.proofs.Math.IntN.{neg_ℤ-neg_ℤ, *ℤ-negsuc, *ℤ_comm}
use native.Mathlib.Nat.{zero-div}
use Rattle.std.proofs.lemmas.Nat.{pow-add, mod-mul-add}
use Rattle.std.proofs.lemmas.Int.{ints, unsigned_abs-mul}
use Rattle.std.specs.Int.{w64, w128, int_signum}
use lib.Signed.{mag}
use Rattle.rpg_decimal_words.specs.Whole.{with_sign_of, cut_quotient}
use Rattle.rpg_decimal_words.specs.Fraction.{with_decimals, aligned_number, rest_of, IsSameValue}
use Rattle.rpg_decimal.proofs.WholeLemmas.{back, mag_below, times_is, rounded-times, ten_pos, ten-split}

-- ---- products

-- a product as the code makes it
pub product_is : (x y : ℤ) → mag x < 2 ^ 127 → mag y < 2 ^ 127 → unsigned_abs x * unsigned_abs y < 10 ^ 33 → to_z w128 (of_z w128 (to_z w128 (of_z w128 x) *ℤ to_z w128 (of_z w128 y))) ≡ x *ℤ y
product_is x y hx hy small =
    let size = unsigned_abs-mul x y in
    let fits : FitsSigned w128 (x *ℤ y) = record { sfits = mag_below (x *ℤ y) (2 ^ 127) (omega arith) } in
    rw (back {z = x} hx, back {z = y} hy) (to_z-of_z fits)

pub product_fits : (x y : ℤ) → mag x < 2 ^ 127 → mag y < 2 ^ 127 → unsigned_abs x * unsigned_abs y < 10 ^ 33 → FitsSigned w128 (to_z w128 (of_z w128 x) *ℤ to_z w128 (of_z w128 y))
product_fits x y hx hy small =
    let size = unsigned_abs-mul x y in
    let fits : FitsSigned w128 (x *ℤ y) = record { sfits = mag_below (x *ℤ y) (2 ^ 127) (omega arith) } in
    rw (back {z = x} hx, back {z = y} hy) fits

pub product_below : (x y : ℤ) → mag x < 2 ^ 127 → mag y < 2 ^ 127 → unsigned_abs x * unsigned_abs y < 10 ^ 33 → unsigned_abs (to_z w128 (of_z w128 (to_z w128 (of_z w128 x) *ℤ to_z w128 (of_z w128 y)))) < 10 ^ 36
product_below x y hx hy small = rw (product_is x y hx hy small, unsigned_abs-mul x y) (omega arith)

pub signum-le : (z : ℤ) → unsigned_abs (int_signum z) ≤ 1
signum-le (pos n) = omega arith
signum-le (negsuc n) = omega arith

neg-times : (z : ℤ) (q : ℕ) → neg_ℤ z *ℤ pos q ≡ neg_ℤ (z *ℤ pos q)
neg-times (pos zero) q = ap pos (zero-mul q) ∙ sym (ap (λ n. neg_ℤ (pos n)) (zero-mul q))
neg-times (pos (suc n)) q = refl
neg-times (negsuc n) q = sym (neg_ℤ-neg_ℤ (pos (suc n * q)))

times-one : (x : ℤ) → x *ℤ pos 1 ≡ x
times-one (pos a) = ap pos (mul-one a)
times-one (negsuc a) = ap (λ n. neg_ℤ (pos n)) (mul-one (suc a))

pub times-times : (x : ℤ) (p q : ℕ) → x *ℤ pos p *ℤ pos q ≡ x *ℤ pos (p * q)
times-times (pos a) p q = ap pos (mul_assoc a p q)
times-times (negsuc a) p q = neg-times (pos (suc a * p)) q ∙ ap (λ n. neg_ℤ (pos n)) (mul_assoc (suc a) p q)

times-swap-pos : (x : ℤ) (t q : ℕ) → x *ℤ pos t *ℤ pos q ≡ x *ℤ pos q *ℤ pos t
times-swap-pos x t q = times-times x t q ∙ ap (λ n. x *ℤ pos n) (mul_comm t q) ∙ sym (times-times x q t)

times-swap : (x s : ℤ) (q : ℕ) → x *ℤ s *ℤ pos q ≡ x *ℤ pos q *ℤ s
times-swap x (pos t) q = times-swap-pos x t q
times-swap x (negsuc t) q =
    ap (λ z. z *ℤ pos q) (*ℤ-negsuc x t) ∙ neg-times (x *ℤ pos (suc t)) q ∙ ap neg_ℤ (times-swap-pos x (suc t) q) ∙ sym (*ℤ-negsuc (x *ℤ pos q) t)

-- the top of a quotient, shifted
pub dividend_is : (a s : ℤ) (j k : ℕ) → a *ℤ pos (10 ^ (j + k)) *ℤ s ≡ a *ℤ pos (10 ^ j) *ℤ s *ℤ pos (10 ^ k)
dividend_is a s j k =
    ap (λ p. a *ℤ pos p *ℤ s) (pow-add 10 j k) ∙ ap (λ z. z *ℤ s) (sym (times-times a (10 ^ j) (10 ^ k))) ∙ sym (times-swap (a *ℤ pos (10 ^ j)) s (10 ^ k))

pub size_pos : (z : ℤ) → (of_z w64 z ≡ 0 → ⊥) → 0 < unsigned_abs z
size_pos (pos n) h = omega (arith, pos_of_ne-zero h)
size_pos (negsuc n) h = omega arith

-- ---- quotients

div-neg : (z : ℤ) (m : ℕ) → int_div (neg_ℤ z) (pos m) ≡ neg_ℤ (int_div z (pos m))
div-neg (pos zero) m = ap pos (zero-div m) ∙ sym (ap (λ n. neg_ℤ (pos n)) (zero-div m))
div-neg (pos (suc n)) m = refl
div-neg (negsuc n) m = sym (neg_ℤ-neg_ℤ (pos (suc n / m)))

-- the sign goes through a product, a difference and a quotient
sign-product : (a : ℤ) (s c : ℕ) → with_sign_of a s *ℤ pos c ≡ with_sign_of a (s * c)
sign-product (pos a) s c = refl
sign-product (negsuc a) s c = neg-times (pos s) c

sign-difference : (a : ℤ) (s t : ℕ) → t ≤ s → with_sign_of a s -ℤ with_sign_of a t ≡ with_sign_of a (s - t)
sign-difference (pos a) s t h = omega (arith, ints)
sign-difference (negsuc a) s t h = omega (arith, ints)

sign-quotient : (a : ℤ) (s m : ℕ) → cut_quotient (with_sign_of a s) m ≡ with_sign_of a (s / m)
sign-quotient (pos a) s m = refl
sign-quotient (negsuc a) s m = div-neg (pos s) m

sign-factor : (a : ℤ) (c s : ℕ) → pos c *ℤ with_sign_of a s ≡ with_sign_of a (c * s)
sign-factor a c s = *ℤ_comm (pos c) (with_sign_of a s) ∙ sign-product a s c ∙ ap (with_sign_of a) (mul_comm s c)

minus-minus : (m : ℕ) (z : ℤ) → negsuc m *ℤ neg_ℤ z ≡ pos (suc m) *ℤ z
minus-minus m (pos zero) = ap (λ n. neg_ℤ (pos n)) (mul-zero (suc m)) ∙ sym (ap pos (mul-zero (suc m)))
minus-minus m (pos (suc n)) = refl
minus-minus m (negsuc n) = refl

-- ---- what a division leaves

-- the quotient without its signs
size_quotient : ℤ → ℕ → ℕ → ℕ → ℕ
size_quotient a j k v = unsigned_abs a * (10 ^ j * 10 ^ k) / v

plain_quotient : (a : ℤ) (j k v : ℕ) → cut_quotient (a *ℤ pos (10 ^ j) *ℤ pos (10 ^ k)) v ≡ with_sign_of a (size_quotient a j k v)
unfolding size_quotient
plain_quotient a j k v =
    ap (λ z. cut_quotient z v) (times-times a (10 ^ j) (10 ^ k)) ∙ rounded-times false a (10 ^ j * 10 ^ k) v (mul-pos (ten_pos j) (ten_pos k))

-- the divisor times the quotient has the dividend's sign
taken_is : (a b : ℤ) (j k v : ℕ) → 0 < unsigned_abs b → b *ℤ cut_quotient (a *ℤ pos (10 ^ j) *ℤ int_signum b *ℤ pos (10 ^ k)) v ≡ with_sign_of a (unsigned_abs b * size_quotient a j k v)
taken_is a (pos zero) j k v h = absurd (omega arith)
taken_is a (pos (suc m)) j k v h =
    let one : min (suc m) 1 ≡ 1 = omega arith in
    let x = a *ℤ pos (10 ^ j) in
    ap (λ z. pos (suc m) *ℤ cut_quotient (z *ℤ pos (10 ^ k)) v) (ap (λ n. x *ℤ pos n) one ∙ times-one x)
    ∙ ap (λ z. pos (suc m) *ℤ z) (plain_quotient a j k v) ∙ sign-factor a (suc m) (size_quotient a j k v)
taken_is a (negsuc m) j k v h =
    let x = a *ℤ pos (10 ^ j) in
    ap (λ z. negsuc m *ℤ cut_quotient (z *ℤ pos (10 ^ k)) v) (*ℤ-negsuc x 0 ∙ ap neg_ℤ (times-one x))
    ∙ ap (λ z. negsuc m *ℤ cut_quotient z v) (neg-times x (10 ^ k)) ∙ ap (λ z. negsuc m *ℤ z) (div-neg (x *ℤ pos (10 ^ k)) v)
    ∙ minus-minus m (cut_quotient (x *ℤ pos (10 ^ k)) v)
    ∙ ap (λ z. pos (suc m) *ℤ z) (plain_quotient a j k v) ∙ sign-factor a (suc m) (size_quotient a j k v)

-- the rest of the sizes, before it is aligned
size_rest : ℤ → ℤ → ℕ → ℕ → ℕ → ℕ
size_rest a b i j k = unsigned_abs a * (10 ^ j * 10 ^ k) % (10 ^ i * unsigned_abs b)

top_is : (a b : ℤ) (i j k : ℕ) → 0 < unsigned_abs b → (rest_of (with_decimals a i) (with_decimals b j) k).top ≡ with_sign_of a (size_rest a b i j k)
unfolding size_quotient size_rest
top_is a b i j k h =
    let s = unsigned_abs a * (10 ^ j * 10 ^ k) in
    let t = unsigned_abs b in
    let v = 10 ^ i * t in
    let q = s / v in
    let whole : q * v + s % v ≡ s = div-add-mod' s v in
    let taken : t * q * 10 ^ i ≡ q * v = omega arith in
    ap₂ (λ x y. x -ℤ y *ℤ pos (10 ^ i)) (times_is a (10 ^ j * 10 ^ k)) (taken_is a b j k v h)
    ∙ ap (λ z. with_sign_of a s -ℤ z) (sign-product a (t * q) (10 ^ i))
    ∙ sign-difference a s (t * q * 10 ^ i) (omega arith)
    ∙ ap (with_sign_of a) (omega arith)

mod-scaled : (a b c : ℕ) → 0 < b → 0 < c → a % b * c ≡ a * c % (b * c)
mod-scaled a b c h k =
    let low : a % b * c < b * c = mul-lt-mul_of_pos_right (mod-lt a h) k in
    let whole = ap (λ n. n * c) (div-add-mod' a b) in
    let split : a * c ≡ (a / b) * (b * c) + a % b * c = omega arith in
    sym (ap (λ n. n % (b * c)) split ∙ mod-mul-add (a / b) (b * c) (a % b * c) low)

-- aligned, it is the remainder of the aligned numbers
size_aligned : (a b : ℤ) (i j k r : ℕ) → 0 < unsigned_abs b → i ≤ r → j + k ≤ r
    → size_rest a b i j k * 10 ^ r ≡ unsigned_abs a * 10 ^ (r - i) % (unsigned_abs b * 10 ^ (r - (j + k))) * (10 ^ i * (10 ^ j * 10 ^ k))
unfolding size_rest
size_aligned a b i j k r some hi hjk =
    let m = unsigned_abs a in
    let n = unsigned_abs b in
    let x = 10 ^ i in
    let y = 10 ^ j * 10 ^ k in
    let p = 10 ^ (r - i) in
    let q = 10 ^ (r - (j + k)) in
    let by_i : 10 ^ r ≡ p * x = ten-split i r hi in
    let by_jk : 10 ^ r ≡ q * y = ten-split (j + k) r hjk ∙ ap (λ z. q * z) (pow-add 10 j k) in
    let top : m * y * 10 ^ r ≡ m * p * (x * y) = ap (λ z. m * y * z) by_i ∙ omega arith in
    let bottom : x * n * 10 ^ r ≡ n * q * (x * y) = ap (λ z. x * n * z) by_jk ∙ omega arith in
    mod-scaled (m * y) (x * n) (10 ^ r) (mul-pos (ten_pos i) some) (ten_pos r)
    ∙ ap₂ (λ u v. u % v) top bottom
    ∙ sym (mod-scaled (m * p) (n * q) (x * y) (mul-pos some (ten_pos (r - (j + k)))) (mul-pos (ten_pos i) (mul-pos (ten_pos j) (ten_pos k))))

-- the rest as the code makes it
abbrev pub code_rest : ℤ → ℤ → ℕ → ℕ → ℕ → ℕ → ℤ
code_rest a b i j k r = with_sign_of a (unsigned_abs a * 10 ^ (r - i) % (unsigned_abs b * 10 ^ (r - (j + k))))

pub rest_value : (a b : ℤ) (i j k r : ℕ) → 0 < unsigned_abs b → i ≤ r → j + k ≤ r → code_rest a b i j k r ≡ aligned_number false r (rest_of (with_decimals a i) (with_decimals b j) k)
rest_value a b i j k r some hi hjk =
    let d = unsigned_abs a * 10 ^ (r - i) % (unsigned_abs b * 10 ^ (r - (j + k))) in
    let e = 10 ^ i * (10 ^ j * 10 ^ k) in
    let t = size_rest a b i j k in
    sym (ap (λ z. cut_quotient (z *ℤ pos (10 ^ r)) e) (top_is a b i j k some)
    ∙ ap (λ z. cut_quotient z e) (sign-product a t (10 ^ r) ∙ ap (with_sign_of a) (size_aligned a b i j k r some hi hjk))
    ∙ sign-quotient a (d * e) e ∙ ap (with_sign_of a) (mul-div_cancel d (mul-pos (ten_pos i) (mul-pos (ten_pos j) (ten_pos k)))))

pub rest_exact : (a b : ℤ) (i j k r : ℕ) → 0 < unsigned_abs b → i ≤ r → j + k ≤ r → IsSameValue (with_decimals (code_rest a b i j k r) r) (rest_of (with_decimals a i) (with_decimals b j) k)
rest_exact a b i j k r some hi hjk =
    let d = unsigned_abs a * 10 ^ (r - i) % (unsigned_abs b * 10 ^ (r - (j + k))) in
    let e = 10 ^ i * (10 ^ j * 10 ^ k) in
    sign-product a d e
    ∙ sym (ap (λ z. z *ℤ pos (10 ^ r)) (top_is a b i j k some) ∙ sign-product a (size_rest a b i j k) (10 ^ r) ∙ ap (with_sign_of a) (size_aligned a b i j k r some hi hjk))

-- one of the two shifts is none
pub rest_below : (m n i g r : ℕ) → m < 10 ^ 15 → 0 < n → n < 10 ^ 15 → r ≡ max i g → m * 10 ^ (r - i) % (n * 10 ^ (r - g)) < 10 ^ 15
rest_below m n i g r hm some hn e =
    elim (cases_lt i g) [
      | inl h ↦
          let none : r - g ≡ 0 = omega arith in
          let unit : n * 10 ^ (r - g) ≡ n = ap (λ j. n * 10 ^ j) none ∙ mul-one n in
          rw unit (omega (arith, mod-lt (m * 10 ^ (r - i)) some))
      | inr h ↦
          let none : r - i ≡ 0 = omega arith in
          let unit : m * 10 ^ (r - i) ≡ m = ap (λ j. m * 10 ^ j) none ∙ mul-one m in
          rw unit (omega (arith, mod-le m (n * 10 ^ (r - g))))
    ]
