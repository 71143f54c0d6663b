-- Parts of a number, written from the last one on.
use Rattle.std.proofs.Common.{◌≡◌, ℕ, zero, suc, ◌+◌, ◌-◌, ◌*◌, ◌/◌, ◌%◌, ◌^◌, ◌<◌, ◌≤◌, List, [], ◌∷◌, ◌++◌, length, set, get_or, take, ap, ap₂, refl, sym, ◌∙◌, arith, inl, inr, get_or-set_same, get_or-set_other, pow-suc, mul_assoc, length-append, mod-lt, div-add-mod', mod-eq_of_lt, true, false, ℤ, pos, negsuc, neg_ℤ, unsigned_abs, nat_lt, cond, if◌then◌else◌, to_z, of_z, w64, ◌-ℤ◌}
use Rattle.std.proofs.Math.Nat.{div-div-eq-div-mul, one-le-pow, pow-le-pow_right}
use Rattle.std.proofs.lemmas.Nat.{pow-add, mod-mul-add, mul-add-lt}
use Rattle.std.proofs.lemmas.List.{ext_get_or, take_more}
use Rattle.std.proofs.lemmas.Bool.{cases_eq, le-ltb}
use Rattle.std.proofs.lemmas.Bool.Decides.{nat_tests}
use Rattle.std.proofs.lemmas.Int.{ints}
use Rattle.rpg_records.specs.Parts.{lowest_parts}
use Rattle.rpg_records.specs.Binary.{byte_value, lowest_bytes, binary_number, twos_complement, binary_bytes}

-- the places of bytes from the p-th on hold the parts of a size, of n parts in all
abbrev pub HoldsFrom : (ℕ → ℕ) → ℕ → ℕ → List ℕ → ℕ → ℕ → Type 0
HoldsFrom part base n bytes size p = (k : ℕ) → p ≤ k → k < n → get_or bytes k 0 ≡ part (size / base ^ (n - 1 - k))

-- one more place from the right
pub placed : (part : ℕ → ℕ) (base n : ℕ) (bytes : List ℕ) (size rest p : ℕ) → length bytes ≡ n → p ≤ n → 0 < p → rest ≡ size / base ^ (n - p) → HoldsFrom part base n bytes size p
    → HoldsFrom part base n (set bytes (p - 1) (part rest)) size (p - 1)
placed part base n bytes size rest p long inside some rest_is done k low high =
    elim (cases_eq k (p - 1)) [
      | inl here ↦
          let inside_here : k < length bytes = omega arith in
          let e : n - p ≡ n - 1 - k = omega arith in
          ap (λ i. get_or (set bytes i (part rest)) k 0) (sym here) ∙ get_or-set_same bytes k (part rest) 0 inside_here
          ∙ ap part (rest_is ∙ ap (λ j. size / base ^ j) e)
      | inr other ↦ get_or-set_other bytes (p - 1) k (part rest) 0 other ∙ done k (omega arith) high
    ]

-- what is left of a size by one more part
pub less : (base n size rest p : ℕ) → p ≤ n → 0 < p → rest ≡ size / base ^ (n - p) → rest / base ≡ size / base ^ (n - (p - 1))
less base n size rest p inside some rest_is =
    let e : suc (n - p) ≡ n - (p - 1) = omega arith in
    ap (λ r. r / base) rest_is ∙ div-div-eq-div-mul size (base ^ (n - p)) base ∙ ap (λ q. size / q) (sym (pow-suc base (n - p))) ∙ ap (λ j. size / base ^ j) e

pub length-parts : (part : ℕ → ℕ) (base k n : ℕ) → length (lowest_parts part base k n) ≡ k
length-parts part base zero n = refl
length-parts part base (suc k) n = ap suc (length-parts part base k n)

get_or-parts : (part : ℕ → ℕ) (base k n i : ℕ) → i < k → get_or (lowest_parts part base k n) i 0 ≡ part (n / base ^ (k - 1 - i))
get_or-parts part base zero n i h = absurd (omega arith)
get_or-parts part base (suc k) n zero h = let e : suc k - 1 - 0 ≡ k = omega arith in ap (λ j. part (n / base ^ j)) (sym e)
get_or-parts part base (suc k) n (suc i) h = let e : suc k - 1 - suc i ≡ k - 1 - i = omega arith in get_or-parts part base k n i (omega arith) ∙ ap (λ j. part (n / base ^ j)) (sym e)

-- all places are done
pub all_placed : (part : ℕ → ℕ) (base n : ℕ) (bytes : List ℕ) (size : ℕ) → length bytes ≡ n → HoldsFrom part base n bytes size 0 → bytes ≡ lowest_parts part base n size
all_placed part base n bytes size long done =
    let e = length-parts part base n size in
    ext_get_or 0 bytes (lowest_parts part base n size) (long ∙ sym e)
    (λ i h. done i (omega arith) (omega arith) ∙ sym (get_or-parts part base n size i (omega arith)))

-- ---- sizes of bytes

byte_value-append : (xs ys : List ℕ) → byte_value (xs ++ ys) ≡ byte_value xs * 256 ^ length ys + byte_value ys
byte_value-append [] ys = omega arith
byte_value-append (x ∷ xs) ys =
    let more = byte_value-append xs ys in
    let power : x * 256 ^ length (xs ++ ys) ≡ x * 256 ^ length xs * 256 ^ length ys =
    ap (λ n. x * 256 ^ n) (length-append xs ys) ∙ ap (λ p. x * p) (pow-add 256 (length xs) (length ys)) ∙ sym (mul_assoc x (256 ^ length xs) (256 ^ length ys)) in
    omega arith

byte_value_push : (xs : List ℕ) (b : ℕ) → byte_value (xs ++ b ∷ []) ≡ byte_value xs * 256 + b
byte_value_push xs b = byte_value-append xs (b ∷ []) ∙ omega arith

pub byte_value_more : (xs : List ℕ) (i : ℕ) → i < length xs → byte_value (take (i + 1) xs) ≡ byte_value (take i xs) * 256 + get_or xs i 0
byte_value_more xs i h = ap byte_value (take_more xs i 0 h) ∙ byte_value_push (take i xs) (get_or xs i 0)

mod-byte_more : (n p : ℕ) → 0 < p → n % (p * 256) ≡ (n / p % 256) * p + n % p
mod-byte_more n p h =
    let low = mod-lt n h in
    let digit : n / p % 256 < 256 = omega arith in
    let high = div-add-mod' (n / p) 256 in
    let whole = div-add-mod' n p in
    let parts : (n / p / 256) * 256 * p + (n / p % 256) * p ≡ n / p * p = omega (arith, ap (λ q. q * p) high) in
    let split : n ≡ (n / p / 256) * (p * 256) + ((n / p % 256) * p + n % p) = omega arith in
    ap (λ m. m % (p * 256)) split ∙ mod-mul-add (n / p / 256) (p * 256) ((n / p % 256) * p + n % p) (mul-add-lt (n / p % 256) p (n % p) 256 digit low)

pub byte_value-bytes : (k n : ℕ) → byte_value (lowest_bytes k n) ≡ n % 256 ^ k
byte_value-bytes zero n = omega arith
byte_value-bytes (suc k) n =
    ap₂ (λ j v. n / 256 ^ k % 256 * 256 ^ j + v) (length-parts (λ m. m % 256) 256 k n) (byte_value-bytes k n)
    ∙ sym (mod-byte_more n (256 ^ k) (one-le-pow k 256 (omega arith))) ∙ ap (λ p. n % p) (sym (pow-suc 256 k))

pub byte_le : (j k : ℕ) → j ≤ k → 256 ^ j ≤ 256 ^ k
byte_le j k h = pow-le-pow_right (omega arith) h

-- ---- numbers of bytes

-- the number of a size among so many
abbrev number_of : ℕ → ℕ → ℤ
number_of size sizes = if nat_lt (2 * size) sizes then pos size else neg_ℤ (pos (sizes - size))

low_half_is : (size sizes : ℕ) → size * 2 < sizes → number_of size sizes ≡ pos size
low_half_is size sizes h =
    let t : nat_lt (2 * size) sizes ≡ true = grind (arith, nat_tests) in ap (λ b. if b then pos size else neg_ℤ (pos (sizes - size))) t

high_half_is : (size sizes : ℕ) → sizes ≤ size * 2 → number_of size sizes ≡ neg_ℤ (pos (sizes - size))
high_half_is size sizes h =
    let t : nat_lt (2 * size) sizes ≡ false = grind (arith, nat_tests) in ap (λ b. if b then pos size else neg_ℤ (pos (sizes - size))) t

number_is : (bytes : List ℕ) (size sizes : ℕ) → size ≡ byte_value bytes → sizes ≡ 256 ^ length bytes → binary_number bytes ≡ number_of size sizes
number_is bytes size sizes s e = ap₂ number_of (sym s) (sym e)

small_plus : (size : ℕ) → size < 2 ^ 33 → to_z w64 size ≡ pos size
small_plus size h = omega (arith, ints)

small_minus : (size : ℕ) → size < 2 ^ 33 → to_z w64 (of_z w64 (pos 0 -ℤ to_z w64 size)) ≡ neg_ℤ (pos size)
small_minus size h = omega (arith, ints)

pub read_low : (bytes : List ℕ) (size sizes : ℕ) → size ≡ byte_value bytes → sizes ≡ 256 ^ length bytes → sizes ≤ 2 ^ 32 → size * 2 < sizes → to_z w64 size ≡ binary_number bytes
read_low bytes size sizes s e few h = small_plus size (omega arith) ∙ sym (number_is bytes size sizes s e ∙ low_half_is size sizes h)

pub read_high : (bytes : List ℕ) (size sizes : ℕ) → size ≡ byte_value bytes → sizes ≡ 256 ^ length bytes → sizes ≤ 2 ^ 32 → sizes ≤ size * 2
    → to_z w64 (of_z w64 (pos 0 -ℤ to_z w64 (sizes - size))) ≡ binary_number bytes
read_high bytes size sizes s e few h = small_minus (sizes - size) (omega arith) ∙ sym (number_is bytes size sizes s e ∙ high_half_is size sizes h)

pub size_pos : (k a : ℕ) → twos_complement k (pos a) ≡ a
size_pos k a = ap (λ b. cond b (256 ^ k - a) a) (le-ltb a 0 (omega arith))

written_is : (k size : ℕ) → size < 256 ^ k → binary_number (lowest_bytes k size) ≡ number_of size (256 ^ k)
written_is k size h =
    let long = length-parts (λ m. m % 256) 256 k size in
    number_is (lowest_bytes k size) size (256 ^ k) (sym (byte_value-bytes k size ∙ mod-eq_of_lt h)) (ap (λ j. 256 ^ j) (sym long))

twice : (p m : ℕ) → 2 * m < p → p ≤ (p - m) * 2
twice p m h = omega arith

taken : (p m : ℕ) → m ≤ p → p - (p - m) ≡ m
taken p m h = omega arith

pub binary_back : (k : ℕ) (n : ℤ) → 2 * unsigned_abs n < 256 ^ k → binary_number (binary_bytes k n) ≡ n
binary_back k (pos a) h =
    ap (λ s. binary_number (lowest_bytes k s)) (size_pos k a) ∙ written_is k a (omega arith) ∙ low_half_is a (256 ^ k) (omega arith)
binary_back k (negsuc a) h =
    let p = 256 ^ k in
    written_is k (p - suc a) (omega arith) ∙ high_half_is (p - suc a) p (twice p (suc a) h) ∙ ap (λ m. neg_ℤ (pos m)) (taken p (suc a) (omega arith))
