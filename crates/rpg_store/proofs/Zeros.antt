-- A text of zeros is the one that is written for zero.
use Rattle.std.proofs.Common.{◌≡◌, ℕ, zero, suc, ◌+◌, ◌-◌, ◌/◌, ◌%◌, ◌^◌, ◌≤◌, pos, [], ◌∷◌, ◌++◌, length, map, take, get_or, refl, sym, ap, ◌∙◌, arith}
use Rattle.rpg_decimal_words.specs.Place.{lowest_digits, place_value, signed_number}
use Rattle.rpg_decimal_words.specs.Zoned.{digit_of, is_minus, spelled_number, zoned_text}
use Rattle.rpg_store.specs.Area.{bytes_at, zeros}
use Rattle.rpg_store.specs.Written.{IsWritten}

first_zeros : (n len : ℕ) → len ≤ n → take len (zeros n) ≡ zeros len
first_zeros n zero h = refl
first_zeros zero (suc len) h = absurd (omega arith)
first_zeros (suc n) (suc len) h = ap (λ xs. 48 ∷ xs) (first_zeros n len (omega arith))

pub some_zeros : (n at len : ℕ) → at + len ≤ n → bytes_at (zeros n) at len ≡ zeros len
some_zeros n zero len h = first_zeros n len (omega arith)
some_zeros zero (suc at) len h = absurd (omega arith)
some_zeros (suc n) (suc at) len h = some_zeros n at len (omega arith)

long : (k : ℕ) → length (zeros k) ≡ k
long zero = refl
long (suc k) = let t = long k in omega arith

no_value : (k : ℕ) → place_value (map digit_of (zeros k)) ≡ 0
no_value zero = refl
no_value (suc k) = let t = no_value k in omega arith

last_zero : (k : ℕ) → get_or (zeros (suc k)) k 0 ≡ 48
last_zero zero = refl
last_zero (suc k) = last_zero k

no_digits : (k : ℕ) → map (λ d. 48 + d) (lowest_digits k 0) ≡ zeros k
no_digits zero = refl
no_digits (suc k) = let e : 0 / 10 ^ k ≡ 0 = grind arith in ap (λ q. (48 + q % 10) ∷ map (λ d. 48 + d) (lowest_digits k 0)) e ∙ ap (λ xs. 48 ∷ xs) (no_digits k)

one_more : (k : ℕ) → zeros k ++ (48 ∷ []) ≡ zeros (suc k)
one_more zero = refl
one_more (suc k) = ap (λ xs. 48 ∷ xs) (one_more k)

spells_zero : (k : ℕ) → spelled_number (zeros (suc k)) ≡ pos 0
spells_zero k =
    let l : length (zeros (suc k)) - 1 ≡ k = let t = long (suc k) in omega arith in
    ap (λ i. signed_number (is_minus (get_or (zeros (suc k)) i 0)) (map digit_of (zeros (suc k)))) l
    ∙ ap (λ c. signed_number (is_minus c) (map digit_of (zeros (suc k)))) (last_zero k)
    ∙ ap pos (no_value (suc k))

zoned : (k : ℕ) → zoned_text (suc k) (pos 0) ≡ zeros (suc k)
zoned k =
    let e : suc k - 1 ≡ k = omega arith in
    ap (λ i. map (λ d. 48 + d) (lowest_digits i 0) ++ 48 ∷ []) e ∙ ap (λ xs. xs ++ 48 ∷ []) (no_digits k) ∙ one_more k

pub zero_is_written : (len : ℕ) → 1 ≤ len → IsWritten (zeros len)
zero_is_written zero h = absurd (omega arith)
zero_is_written (suc k) h = sym (ap (λ m. zoned_text m (spelled_number (zeros (suc k)))) (long (suc k)) ∙ ap (zoned_text (suc k)) (spells_zero k) ∙ zoned k)
