-- Halves of bytes, and packed numbers.
use Rattle.std.proofs.Common.{◌≡◌, ℕ, zero, suc, ◌+◌, ◌-◌, ◌*◌, ◌/◌, ◌%◌, ◌^◌, ◌<◌, ◌≤◌, Bool, true, false, ◌&&◌, ℤ, pos, negsuc, neg_ℤ, unsigned_abs, List, [], ◌∷◌, ◌++◌, length, take, get_or, refl, sym, ap, ap₂, ◌∙◌, arith, append_assoc, pow-suc, Some, None, cond, to_z, of_z, w64, if◌then◌else◌, div-add-mod', mod-eq_of_lt}
use Rattle.std.proofs.Math.Nat.{div-div-eq-div-mul, pow-le-pow_right}
use Rattle.std.proofs.lemmas.Nat.{pow-add, mul-pow}
use Rattle.std.proofs.lemmas.Bool.{and_from, and_right, le-ltb}
use Rattle.std.proofs.lemmas.Bool.Decides.{nat_tests}
use Rattle.std.proofs.lemmas.Int.{ints}
use Rattle.std.proofs.lemmas.List.{take_more, take_all, take_at, get_or_push, length_push}
use Rattle.std.proofs.lemmas.List.Folds.{list_all-append, list_all_at}
use Rattle.std.specs.List.{list_all}
use Rattle.rpg_decimal_words.specs.Place.{place_value, lowest_digits, signed_number}
use Rattle.rpg_decimal_words.specs.Zoned.{last_of}
use Rattle.rpg_records.specs.Packed.{halves, is_figure, is_sign, is_minus_sign, packed_digits, packed_sign, is_packed, packed_number, packed_in, pair_byte, lowest_pairs, sign_digit, packed_bytes}
use Rattle.rpg_decimal.proofs.PlaceLemmas.{place_value-append, place_value_push, place_value-digits}
use Rattle.rpg_decimal.proofs.WholeLemmas.{ten_le}

-- ---- halves

pub halves_push : (xs : List ℕ) (b : ℕ) → halves (xs ++ b ∷ []) ≡ halves xs ++ b / 16 ∷ (b % 16 ∷ [])
halves_push [] b = refl
halves_push (x ∷ xs) b = ap (λ t. x / 16 ∷ (x % 16 ∷ t)) (halves_push xs b)

pub halves_more : (xs : List ℕ) (i : ℕ) → i < length xs → halves (take (i + 1) xs) ≡ halves (take i xs) ++ get_or xs i 0 / 16 ∷ (get_or xs i 0 % 16 ∷ [])
halves_more xs i h = ap halves (take_more xs i 0 h) ∙ halves_push (take i xs) (get_or xs i 0)

pub length-halves : (xs : List ℕ) → length (halves xs) ≡ 2 * length xs
length-halves [] = refl
length-halves (x ∷ xs) = let e = length-halves xs in omega (arith, e)

high_half : (xs : List ℕ) (i : ℕ) → i < length xs → get_or (halves xs) (2 * i) 0 ≡ get_or xs i 0 / 16
high_half [] i h = absurd (omega arith)
high_half (x ∷ xs) zero h = refl
high_half (x ∷ xs) (suc i) h = let e : 2 * suc i ≡ suc (suc (2 * i)) = omega arith in ap (λ k. get_or (halves (x ∷ xs)) k 0) e ∙ high_half xs i (omega arith)

low_half : (xs : List ℕ) (i : ℕ) → i < length xs → get_or (halves xs) (2 * i + 1) 0 ≡ get_or xs i 0 % 16
low_half [] i h = absurd (omega arith)
low_half (x ∷ xs) zero h = refl
low_half (x ∷ xs) (suc i) h = let e : 2 * suc i + 1 ≡ suc (suc (2 * i + 1)) = omega arith in ap (λ k. get_or (halves (x ∷ xs)) k 0) e ∙ low_half xs i (omega arith)

pub bad_high : (xs : List ℕ) (i : ℕ) → i < length xs → 9 < get_or xs i 0 / 16 → list_all is_figure (halves xs) ≡ false
bad_high xs i h bad =
    let e = length-halves xs in
    list_all_at is_figure (halves xs) (2 * i) 0 (omega (arith, e)) (ap is_figure (high_half xs i h) ∙ le-ltb (get_or xs i 0 / 16) 10 (omega arith))

pub bad_low : (xs : List ℕ) (i : ℕ) → i < length xs → 9 < get_or xs i 0 % 16 → list_all is_figure (halves xs) ≡ false
bad_low xs i h bad =
    let e = length-halves xs in
    list_all_at is_figure (halves xs) (2 * i + 1) 0 (omega (arith, e)) (ap is_figure (low_half xs i h) ∙ le-ltb (get_or xs i 0 % 16) 10 (omega arith))

pub figures_two : (xs : List ℕ) (a b : ℕ) → list_all is_figure xs ≡ true → a < 10 → b < 10 → list_all is_figure (xs ++ a ∷ (b ∷ [])) ≡ true
figures_two xs a b h la lb =
    let one : is_figure a ≡ true = grind (arith, nat_tests) in
    let two : is_figure b ≡ true = grind (arith, nat_tests) in
    list_all-append is_figure xs (a ∷ (b ∷ [])) ∙ and_from _ _ h (and_from _ _ one (and_from _ _ two refl))

pub value_two : (xs : List ℕ) (a b : ℕ) → place_value (xs ++ a ∷ (b ∷ [])) ≡ place_value xs * 100 + (a * 10 + b)
value_two xs a b = place_value-append xs (a ∷ (b ∷ [])) ∙ omega arith

-- ---- the digits and the sign of bytes, the last one apart

pub digits_split : (front : List ℕ) (b : ℕ) → packed_digits (front ++ b ∷ []) ≡ halves front ++ b / 16 ∷ []
digits_split front b =
    let whole : halves (front ++ b ∷ []) ≡ (halves front ++ b / 16 ∷ []) ++ b % 16 ∷ [] = halves_push front b ∙ sym (append_assoc (halves front) (b / 16 ∷ []) (b % 16 ∷ [])) in
    let long : length ((halves front ++ b / 16 ∷ []) ++ b % 16 ∷ []) - 1 ≡ length (halves front ++ b / 16 ∷ []) =
    let e = length_push (halves front ++ b / 16 ∷ []) (b % 16) in omega (arith, e) in
    ap₂ (λ m t. take m t) (ap (λ t. length t - 1) whole ∙ long) whole ∙ take_at (halves front ++ b / 16 ∷ []) (b % 16 ∷ []) _ refl

pub sign_split : (front : List ℕ) (b : ℕ) → packed_sign (front ++ b ∷ []) ≡ b % 16
sign_split front b =
    let whole : halves (front ++ b ∷ []) ≡ (halves front ++ b / 16 ∷ []) ++ b % 16 ∷ [] = halves_push front b ∙ sym (append_assoc (halves front) (b / 16 ∷ []) (b % 16 ∷ [])) in
    let long : length (halves front ++ b / 16 ∷ []) ≡ length ((halves front ++ b / 16 ∷ []) ++ b % 16 ∷ []) - 1 =
    let e = length_push (halves front ++ b / 16 ∷ []) (b % 16) in omega (arith, e) in
    ap last_of whole ∙ get_or_push (halves front ++ b / 16 ∷ []) (b % 16) 0 _ long

pub bytes_split : (xs : List ℕ) → 1 ≤ length xs → xs ≡ take (length xs - 1) xs ++ get_or xs (length xs - 1) 0 ∷ []
bytes_split xs h =
    let e : length xs - 1 + 1 ≡ length xs = omega arith in
    sym (take_all (length xs) xs (omega arith)) ∙ ap (λ n. take n xs) (sym e) ∙ take_more xs (length xs - 1) 0 (omega arith)

-- what is read of a front and a last byte
pub is_split : (front : List ℕ) (b : ℕ) → is_packed (front ++ b ∷ []) ≡ (list_all is_figure (halves front ++ b / 16 ∷ []) && is_sign (b % 16))
is_split front b = ap₂ (λ d s. list_all is_figure d && is_sign s) (digits_split front b) (sign_split front b)

pub number_split : (front : List ℕ) (b : ℕ) → packed_number (front ++ b ∷ []) ≡ (if is_minus_sign (b % 16) then neg_ℤ (pos (place_value (halves front) * 10 + b / 16)) else pos (place_value (halves front) * 10 + b / 16))
number_split front b =
    ap₂ (λ d s. signed_number (is_minus_sign s) d) (digits_split front b) (sign_split front b)
    ∙ ap (λ v. if is_minus_sign (b % 16) then neg_ℤ (pos v) else pos v) (place_value_push (halves front) (b / 16))

pub is_packed-valid : (front : List ℕ) (b : ℕ) → list_all is_figure (halves front) ≡ true → b / 16 < 10 → 10 ≤ b % 16 → is_packed (front ++ b ∷ []) ≡ true
is_packed-valid front b h l s =
    let one : is_figure (b / 16) ≡ true = grind (arith, nat_tests) in
    let two : is_sign (b % 16) ≡ true = grind (arith, nat_tests) in
    is_split front b ∙ and_from _ _ (list_all-append is_figure (halves front) (b / 16 ∷ []) ∙ and_from _ _ h (and_from _ _ one refl)) two

pub is_packed-bad_front : (front : List ℕ) (b : ℕ) → list_all is_figure (halves front) ≡ false → is_packed (front ++ b ∷ []) ≡ false
is_packed-bad_front front b h =
    is_split front b ∙ ap (λ t. t && is_sign (b % 16)) (list_all-append is_figure (halves front) (b / 16 ∷ []) ∙ ap (λ t. t && list_all is_figure (b / 16 ∷ [])) h)

pub is_packed-bad_digit : (front : List ℕ) (b : ℕ) → 9 < b / 16 → is_packed (front ++ b ∷ []) ≡ false
is_packed-bad_digit front b h =
    let one : is_figure (b / 16) ≡ false = grind (arith, nat_tests) in
    is_split front b
    ∙ ap (λ t. t && is_sign (b % 16)) (list_all-append is_figure (halves front) (b / 16 ∷ []) ∙ ap (λ t. list_all is_figure (halves front) && (t && true)) one ∙ and_right (list_all is_figure (halves front)) false refl)

pub is_packed-bad_sign : (front : List ℕ) (b : ℕ) → b % 16 < 10 → is_packed (front ++ b ∷ []) ≡ false
is_packed-bad_sign front b h =
    let one : is_sign (b % 16) ≡ false = grind (arith, nat_tests) in
    is_split front b ∙ ap (λ t. list_all is_figure (halves front ++ b / 16 ∷ []) && t) one ∙ and_right (list_all is_figure (halves front ++ b / 16 ∷ [])) false refl

pub in_some : (xs : List ℕ) → is_packed xs ≡ true → packed_in xs ≡ Some (packed_number xs)
in_some xs h = ap (λ t. cond t (Some (packed_number xs)) None) h

pub in_none : (xs : List ℕ) → is_packed xs ≡ false → packed_in xs ≡ None
in_none xs h = ap (λ t. cond t (Some (packed_number xs)) None) h

-- ---- what is written

pub hundred : (k : ℕ) → 100 ^ k ≡ 10 ^ (2 * k)
hundred k = let e : 2 * k ≡ k + k = omega arith in mul-pow 10 10 k ∙ sym (pow-add 10 k k) ∙ ap (λ j. 10 ^ j) (sym e)

pub halves-pairs : (k n : ℕ) → halves (lowest_pairs k n) ≡ lowest_digits (2 * k) n
halves-pairs zero n = refl
halves-pairs (suc k) n =
    let r = n / 100 ^ k in
    let e : 2 * suc k ≡ suc (suc (2 * k)) = omega arith in
    let high : pair_byte r / 16 ≡ r / 10 % 10 = omega arith in
    let low : pair_byte r % 16 ≡ r % 10 = omega arith in
    let r_is : r ≡ n / 10 ^ (2 * k) = ap (λ p. n / p) (hundred k) in
    let tens : r / 10 ≡ n / 10 ^ suc (2 * k) = ap (λ m. m / 10) r_is ∙ div-div-eq-div-mul n (10 ^ (2 * k)) 10 ∙ ap (λ p. n / p) (sym (pow-suc 10 (2 * k))) in
    ap₂ (λ a b. a ∷ (b ∷ halves (lowest_pairs k n))) (high ∙ ap (λ m. m % 10) tens) (low ∙ ap (λ m. m % 10) r_is)
    ∙ ap (λ t. n / 10 ^ suc (2 * k) % 10 ∷ (n / 10 ^ (2 * k) % 10 ∷ t)) (halves-pairs k n)
    ∙ ap (λ j. lowest_digits j n) (sym e)

pub figures-digits : (k n : ℕ) → list_all is_figure (lowest_digits k n) ≡ true
figures-digits zero n = refl
figures-digits (suc k) n = let one : is_figure (n / 10 ^ k % 10) ≡ true = grind (arith, nat_tests) in and_from _ _ one (figures-digits k n)

sign_pos : (a : ℕ) → sign_digit (pos a) ≡ 15
sign_pos a = ap (λ b. cond b 13 15) (le-ltb a 0 (omega arith))

sign_bound : (n : ℤ) → (sign_digit n < 16) × (10 ≤ sign_digit n)
sign_bound (pos a) = let e = sign_pos a in (omega (arith, e), omega (arith, e))
sign_bound (negsuc a) = (omega arith, omega arith)

sign_back : (n : ℤ) → (if is_minus_sign (sign_digit n) then neg_ℤ (pos (unsigned_abs n)) else pos (unsigned_abs n)) ≡ n
sign_back (pos a) = ap (λ s. if is_minus_sign s then neg_ℤ (pos a) else pos a) (sign_pos a)
sign_back (negsuc a) = refl

pub packed_back : (k : ℕ) (n : ℤ) → 1 ≤ k → unsigned_abs n < 10 ^ (2 * k - 1) → packed_in (packed_bytes k n) ≡ Some n
packed_back k n low fits =
    let size = unsigned_abs n in
    let front = lowest_pairs (k - 1) (size / 10) in
    let b = size % 10 * 16 + sign_digit n in
    let bound = sign_bound n in
    let digit : b / 16 ≡ size % 10 = omega (arith, bound.0) in
    let sign : b % 16 ≡ sign_digit n = omega (arith, bound.0) in
    let front_is = halves-pairs (k - 1) (size / 10) in
    let power : 10 ^ (2 * k - 1) ≡ 10 ^ (2 * (k - 1)) * 10 =
    let e : 2 * k - 1 ≡ suc (2 * (k - 1)) = omega arith in ap (λ j. 10 ^ j) e ∙ pow-suc 10 (2 * (k - 1)) in
    let below : size / 10 < 10 ^ (2 * (k - 1)) = omega arith in
    let value : place_value (halves front) * 10 + b / 16 ≡ size =
    ap₂ (λ v d. v * 10 + d) (ap place_value front_is ∙ place_value-digits (2 * (k - 1)) (size / 10) ∙ mod-eq_of_lt below) digit ∙ div-add-mod' size 10 in
    let valid : is_packed (front ++ b ∷ []) ≡ true =
    is_packed-valid front b (ap (list_all is_figure) front_is ∙ figures-digits (2 * (k - 1)) (size / 10)) (omega (arith, digit)) (omega (arith, sign, bound.1)) in
    in_some (front ++ b ∷ []) valid
    ∙ ap Some (number_split front b ∙ ap₂ (λ s v. if is_minus_sign s then neg_ℤ (pos v) else pos v) sign value ∙ sign_back n)

-- ---- sizes

pub hundred_le : (j k : ℕ) → j ≤ k → 100 ^ j ≤ 100 ^ k
hundred_le j k h = pow-le-pow_right (omega arith) h

pub front_long : (xs : List ℕ) → 1 ≤ length xs → length (take (length xs - 1) xs) ≡ length xs - 1
front_long xs h =
    let e = ap length (bytes_split xs h) ∙ length_push (take (length xs - 1) xs) (get_or xs (length xs - 1) 0) in omega (arith, e)

pub size_below : (n front d m : ℕ) → 1 ≤ n → front < 10 ^ (2 * m) → m ≡ n - 1 → d ≤ 9 → front * 10 + d < 10 ^ (2 * n - 1)
size_below n front d m low h e digit =
    let at : 2 * n - 1 ≡ suc (2 * m) = omega arith in
    let power : 10 ^ (2 * n - 1) ≡ 10 ^ (2 * m) * 10 = ap (λ j. 10 ^ j) at ∙ pow-suc 10 (2 * m) in
    omega (arith, power)

pub size_small : (n size : ℕ) → n ≤ 8 → size < 10 ^ (2 * n - 1) → size < 10 ^ 15
size_small n size h l = let t = ten_le (2 * n - 1) 15 (omega arith) in omega (arith, t)

wrapped_minus : (size : ℕ) → size < 10 ^ 15 → to_z w64 (of_z w64 (neg_ℤ (pos size))) ≡ neg_ℤ (pos size)
wrapped_minus size h = omega (arith, ints)

wrapped_plus : (size : ℕ) → size < 10 ^ 15 → to_z w64 (of_z w64 (pos size)) ≡ pos size
wrapped_plus size h = omega (arith, ints)

-- a size under a sign, as the code has it
pub wrapped : (b : Bool) (size : ℕ) (r : ℤ) → size < 10 ^ 15 → r ≡ (if b then neg_ℤ (pos size) else pos size) → to_z w64 (of_z w64 r) ≡ (if b then neg_ℤ (pos size) else pos size)
wrapped true size r h e = ap (λ x. to_z w64 (of_z w64 x)) e ∙ wrapped_minus size h
wrapped false size r h e = ap (λ x. to_z w64 (of_z w64 x)) e ∙ wrapped_plus size h

abs_minus : (size : ℕ) → unsigned_abs (neg_ℤ (pos size)) ≡ size
abs_minus zero = refl
abs_minus (suc a) = refl

pub abs_signed : (b : Bool) (size : ℕ) → unsigned_abs (if b then neg_ℤ (pos size) else pos size) ≡ size
abs_signed true size = abs_minus size
abs_signed false size = refl
