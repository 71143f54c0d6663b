-- Texts of numbers.
use Rattle.std.proofs.Common.{◌≡◌, ℕ, zero, suc, ◌+◌, ◌-◌, ◌*◌, ◌/◌, ◌%◌, ◌^◌, ◌<◌, ◌≤◌, Bool, true, false, ◌&&◌, ℤ, pos, negsuc, neg_ℤ, unsigned_abs, List, [], ◌∷◌, ◌++◌, map, length, slice_index, refl, sym, ap, ap₂, ◌∙◌, arith, nat_eq, ◌==◌, subst, add-one, Some, None, Result, Ok, Err, IsErr, to_z, of_z, w64, ◌-ℤ◌, cond, if◌then◌else◌, mod-eq_of_lt, div-add-mod', pow-suc, set, mul_comm}
use Rattle.std.proofs.lemmas.Bool.{and_parts, and_from, or_left, or_right, false_from_ne_true, agree_below_at, eqb-true, le-ltb}
use Rattle.std.proofs.lemmas.Bool.Decides.{nat_tests}
use Rattle.std.proofs.lemmas.Int.{ints}
use Rattle.std.proofs.Math.Nat.{div-div-eq-div-mul}
use Rattle.std.proofs.lemmas.List.{get_or_push, length_push, length-map, set_at}
use Rattle.std.specs.Int.{is_negative}
use Rattle.std.specs.Result.{result_ok}
use Rattle.rpg_decimal_words.specs.Place.{place_value, lowest_digits, signed_number}
use Rattle.rpg_decimal_words.specs.Zoned.{may_stand, IsValidAt, is_numeric, is_digit, is_minus, digit_of, minus_letter, last_of, spelled_number, number_in, last_character, zoned_text, Spells, IsFirstBad}
use Rattle.rpg_decimal.proofs.PlaceLemmas.{place_value_push, place_value-digits, length-digits}

-- ---- each place is valid, by places and from left to right

valid_first : (c : ℕ) (cs : List ℕ) → may_stand (0 + 1 == length (c ∷ cs)) c ≡ may_stand (length cs == 0) c
valid_first c [] = refl
valid_first c (d ∷ cs) = ap (λ b. may_stand b c) (grind (arith, nat_tests))

valid_next : (c : ℕ) (cs : List ℕ) (i : ℕ) → may_stand ((i + 1) + 1 == length (c ∷ cs)) (slice_index (c ∷ cs) (i + 1)) ≡ may_stand (i + 1 == length cs) (slice_index cs i)
valid_next c cs i =
    let e : (nat_eq ((i + 1) + 1) (suc (length cs))) ≡ nat_eq (i + 1) (length cs) = grind (arith, nat_tests) in
    let f : slice_index (c ∷ cs) (i + 1) ≡ slice_index cs i = rw add-one refl in
    ap₂ may_stand e f

pub numeric_from_valid : (text : List ℕ) → ((i : ℕ) → i < length text → IsValidAt text i) → is_numeric text ≡ true
numeric_from_valid [] valid = refl
numeric_from_valid (c ∷ cs) valid =
    ap₂ (◌&&◌) (sym (valid_first c cs) ∙ valid 0 (omega arith)) (numeric_from_valid cs (λ i h. sym (valid_next c cs i) ∙ valid (i + 1) (omega arith)))

pub valid_from_numeric : (text : List ℕ) → is_numeric text ≡ true → (i : ℕ) → i < length text → IsValidAt text i
valid_from_numeric [] h i l = absurd (omega arith)
valid_from_numeric (c ∷ cs) h zero l = valid_first c cs ∙ (and_parts (may_stand (nat_eq (length cs) 0) c) (is_numeric cs) h).0
valid_from_numeric (c ∷ cs) h (suc i) l =
    let next = valid_from_numeric cs ((and_parts (may_stand (nat_eq (length cs) 0) c) (is_numeric cs) h).1) i (omega arith) in
    subst (IsValidAt (c ∷ cs)) (add-one i) (valid_next c cs i ∙ next)

-- ---- what a text spells

pub none_from_err : {T E : Type 0} (r : Result T E) → IsErr r → result_ok r ≡ None
none_from_err (Ok x) h = cc
none_from_err (Err e) h = refl

pub number_none : (text : List ℕ) (spot : ℕ) → IsFirstBad text spot → number_in text ≡ None
number_none text spot h =
    ap (λ b. cond b (Some (spelled_number text)) None) (false_from_ne_true (is_numeric text) (λ t. h.bad (valid_from_numeric text t spot h.inside)))

pub number_some : (text : List ℕ) → is_numeric text ≡ true → number_in text ≡ Some (spelled_number text)
number_some text h = ap (λ b. cond b (Some (spelled_number text)) None) h

pub spelled-minus : (text : List ℕ) (size : ℕ) → is_minus (last_of text) ≡ true → size ≡ place_value (map digit_of text) → neg_ℤ (pos size) ≡ spelled_number text
spelled-minus text size m e = ap (λ n. neg_ℤ (pos n)) e ∙ sym (ap (λ b. signed_number b (map digit_of text)) m)

pub spelled-plus : (text : List ℕ) (size : ℕ) → is_minus (last_of text) ≡ false → size ≡ place_value (map digit_of text) → pos size ≡ spelled_number text
spelled-plus text size m e = ap pos e ∙ sym (ap (λ b. signed_number b (map digit_of text)) m)

-- a size that the code gives a sign
pub minus_back : (size : ℕ) → size < 10 ^ 15 → to_z w64 (of_z w64 (pos 0 -ℤ to_z w64 size)) ≡ neg_ℤ (pos size)
minus_back size h = omega (arith, ints)

pub plus_back : (size : ℕ) → size < 10 ^ 15 → to_z w64 size ≡ pos size
plus_back size h = omega (arith, ints)

-- ---- characters of digits

pub digit_stands : (d : ℕ) → d < 10 → is_digit (48 + d) ≡ true
digit_stands d h = agree_below_at (λ n. is_digit (48 + n)) (λ _. true) 10 d refl h

pub digit_of-plain : (d : ℕ) → d < 10 → digit_of (48 + d) ≡ d
digit_of-plain d h = eqb-true _ _ (agree_below_at (λ n. digit_of (48 + n) == n) (λ _. true) 10 d refl h)

pub is_minus-plain : (d : ℕ) → d < 10 → is_minus (48 + d) ≡ false
is_minus-plain d h = agree_below_at (λ n. is_minus (48 + n)) (λ _. false) 10 d refl h

pub digit_of-letter : (d : ℕ) → d < 10 → digit_of (minus_letter d) ≡ d
digit_of-letter d h = eqb-true _ _ (agree_below_at (λ n. digit_of (minus_letter n) == n) (λ _. true) 10 d refl h)

pub is_minus-letter : (d : ℕ) → d < 10 → is_minus (minus_letter d) ≡ true
is_minus-letter d h = agree_below_at (λ n. is_minus (minus_letter n)) (λ _. true) 10 d refl h

pub letter_stands : (d : ℕ) → d < 10 → may_stand true (minus_letter d) ≡ true
letter_stands d h = agree_below_at (λ n. may_stand true (minus_letter n)) (λ _. true) 10 d refl h

pub plain_stands : (last : Bool) (d : ℕ) → d < 10 → may_stand last (48 + d) ≡ true
plain_stands last d h = or_left _ _ (or_right (48 + d == 32) _ (digit_stands d h))

-- ---- the text that is written

-- digits, and a last character that may stand there
numeric-digits : (k m c : ℕ) → may_stand true c ≡ true → is_numeric (map (λ d. 48 + d) (lowest_digits k m) ++ c ∷ []) ≡ true
numeric-digits zero m c h = and_from (may_stand true c) true h refl
numeric-digits (suc k) m c h =
    and_from _ _ (plain_stands _ (m / 10 ^ k % 10) (omega arith)) (numeric-digits k m c h)

digits-characters : (k m c : ℕ) → map digit_of (map (λ d. 48 + d) (lowest_digits k m) ++ c ∷ []) ≡ lowest_digits k m ++ digit_of c ∷ []
digits-characters zero m c = refl
digits-characters (suc k) m c = ap₂ (◌∷◌) (digit_of-plain (m / 10 ^ k % 10) (omega arith)) (digits-characters k m c)

pub last_of_push : (xs : List ℕ) (c : ℕ) → last_of (xs ++ c ∷ []) ≡ c
last_of_push xs c = get_or_push xs c 0 (length (xs ++ c ∷ []) - 1) (let e = length_push xs c in omega arith)

-- the digits of a size, its last one apart
size_whole : (k size : ℕ) → 1 ≤ k → size < 10 ^ k → place_value (lowest_digits (k - 1) (size / 10) ++ size % 10 ∷ []) ≡ size
size_whole k size low h =
    let e : k ≡ suc (k - 1) = omega arith in
    let power : 10 ^ k ≡ 10 ^ (k - 1) * 10 = ap (λ j. 10 ^ j) e ∙ pow-suc 10 (k - 1) in
    let below : size / 10 < 10 ^ (k - 1) = omega arith in
    place_value_push (lowest_digits (k - 1) (size / 10)) (size % 10)
    ∙ ap (λ v. v * 10 + size % 10) (place_value-digits (k - 1) (size / 10) ∙ mod-eq_of_lt below)
    ∙ div-add-mod' size 10

pub last_character-pos : (a : ℕ) → last_character (pos a) ≡ 48 + a % 10
last_character-pos a = ap (λ b. cond b (minus_letter (a % 10)) (48 + a % 10)) (le-ltb a 0 (omega arith))

spelled-digits : (k m c : ℕ) (b : Bool) → is_minus c ≡ b → spelled_number (map (λ d. 48 + d) (lowest_digits k m) ++ c ∷ []) ≡ signed_number b (lowest_digits k m ++ digit_of c ∷ [])
spelled-digits k m c b h = ap₂ signed_number (ap is_minus (last_of_push (map (λ d. 48 + d) (lowest_digits k m)) c) ∙ h) (digits-characters k m c)

pub spelled-zoned : (k : ℕ) (n : ℤ) → 1 ≤ k → unsigned_abs n < 10 ^ k → spelled_number (zoned_text k n) ≡ n
spelled-zoned k (pos a) low h =
    let d = a % 10 in
    ap (λ c. spelled_number (map (λ d. 48 + d) (lowest_digits (k - 1) (a / 10)) ++ c ∷ [])) (last_character-pos a)
    ∙ spelled-digits (k - 1) (a / 10) (48 + d) false (is_minus-plain d (omega arith))
    ∙ ap pos (ap (λ x. place_value (lowest_digits (k - 1) (a / 10) ++ x ∷ [])) (digit_of-plain d (omega arith)) ∙ size_whole k a low h)
spelled-zoned k (negsuc a) low h =
    let d = suc a % 10 in
    spelled-digits (k - 1) (suc a / 10) (minus_letter d) true (is_minus-letter d (omega arith))
    ∙ ap (λ m. neg_ℤ (pos m)) (ap (λ x. place_value (lowest_digits (k - 1) (suc a / 10) ++ x ∷ [])) (digit_of-letter d (omega arith)) ∙ size_whole k (suc a) low h)

pub numeric-zoned : (k : ℕ) (n : ℤ) → is_numeric (zoned_text k n) ≡ true
numeric-zoned k (pos a) =
    numeric-digits (k - 1) (a / 10) (last_character (pos a)) (ap (may_stand true) (last_character-pos a) ∙ plain_stands true (a % 10) (omega arith))
numeric-zoned k (negsuc a) = numeric-digits (k - 1) (suc a / 10) (minus_letter (suc a % 10)) (letter_stands (suc a % 10) (omega arith))

pub Spells-zoned : (k : ℕ) (n : ℤ) → 1 ≤ k → unsigned_abs n < 10 ^ k → Spells (zoned_text k n) n
Spells-zoned k n low h = record { valid = numeric-zoned k n; value = sym (spelled-zoned k n low h) }

-- the digits of a size, its last one apart
last_apart : (k m : ℕ) → map (λ d. 48 + d) (lowest_digits (suc k) m) ≡ map (λ d. 48 + d) (lowest_digits k (m / 10)) ++ (48 + m % 10) ∷ []
last_apart zero m = let e : m / 10 ^ 0 ≡ m = omega arith in ap (λ x. (48 + x % 10) ∷ []) e
last_apart (suc k) m =
    let e : m / 10 ^ suc k ≡ m / 10 / 10 ^ k = ap (λ p. m / p) (pow-suc 10 k ∙ mul_comm (10 ^ k) 10) ∙ sym (div-div-eq-div-mul m 10 (10 ^ k)) in
    ap₂ (λ x ds. (48 + x % 10) ∷ ds) e (last_apart k m)

-- the digits as they are written
pub written_digits : (k size : ℕ) (text : List ℕ) → 1 ≤ k → text ≡ map (λ d. 48 + d) (lowest_digits k size)
    → text ≡ map (λ d. 48 + d) (lowest_digits (k - 1) (size / 10)) ++ (48 + size % 10) ∷ []
written_digits k size text some text_is =
    let e : k ≡ suc (k - 1) = omega arith in
    text_is ∙ ap (λ j. map (λ d. 48 + d) (lowest_digits j size)) e ∙ last_apart (k - 1) size

-- they are the text of a number that isn't below zero
pub written_plus : (k : ℕ) (n : ℤ) (size : ℕ) (text : List ℕ) → 1 ≤ k → size ≡ unsigned_abs n → is_negative n ≡ false → text ≡ map (λ d. 48 + d) (lowest_digits k size) → text ≡ zoned_text k n
written_plus k n size text some size_is plus text_is =
    written_digits k size text some text_is
    ∙ ap (λ m. map (λ d. 48 + d) (lowest_digits (k - 1) (m / 10)) ++ (48 + m % 10) ∷ []) size_is
    ∙ ap (λ b. map (λ d. 48 + d) (lowest_digits (k - 1) (unsigned_abs n / 10)) ++ (if b then minus_letter (unsigned_abs n % 10) else 48 + unsigned_abs n % 10) ∷ []) (sym plus)

-- of one below zero another character stands in the last place
pub written_minus : (k : ℕ) (n : ℤ) (size c : ℕ) (text : List ℕ) → 1 ≤ k → size ≡ unsigned_abs n → c ≡ last_character n → text ≡ map (λ d. 48 + d) (lowest_digits k size)
    → set text (k - 1) c ≡ zoned_text k n
written_minus k n size c text some size_is c_is text_is =
    let ds = lowest_digits (k - 1) (size / 10) in
    let front = map (λ d. 48 + d) ds in
    let long : length front ≡ k - 1 = length-map ds (λ d. 48 + d) ∙ length-digits (k - 1) (size / 10) in
    ap (λ l. set l (k - 1) c) (written_digits k size text some text_is)
    ∙ set_at front (48 + size % 10) [] c (k - 1) long
    ∙ ap₂ (λ m x. map (λ d. 48 + d) (lowest_digits (k - 1) (m / 10)) ++ x ∷ []) size_is c_is
