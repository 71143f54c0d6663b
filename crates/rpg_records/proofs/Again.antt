-- Bytes that are read, and written again.
use Rattle.std.proofs.Common.{◌≡◌, ℕ, zero, suc, ◌+◌, ◌-◌, ◌*◌, ◌/◌, ◌%◌, ◌^◌, ◌<◌, ◌≤◌, ◌==◌, ◌&&◌, ◌||◌, Bool, true, false, cond, if◌then◌else◌, nat_lt, ℤ, pos, negsuc, neg_ℤ, unsigned_abs, List, [], ◌∷◌, ◌++◌, length, map, take, get_or, refl, sym, ap, ap₂, ◌∙◌, arith, inl, inr, Option, None, Some, option_and_then, option_map, mod-eq_of_lt, pow-suc}
use Rattle.std.proofs.lemmas.Nat.{mul-add-lt, div-mul-add, mod-mul-add}
use Rattle.std.proofs.lemmas.Bool.{agree_below_at, and_parts, and_right, cases_lt, eqb-true, ltb-true, ne_eqb}
use Rattle.std.proofs.lemmas.List.{ext_get_or, get_or_past, length_push}
use Rattle.std.proofs.lemmas.List.Folds.{list_all-append}
use Rattle.std.specs.List.{All, list_all}
use Rattle.rpg_text.specs.Texts.{all_blank, is_blank}
use Rattle.rpg_decimal_words.specs.Place.{lowest_digits, place_value}
use Rattle.rpg_decimal_words.specs.Zoned.{last_character, minus_letter, number_in, zoned_text}
use Rattle.rpg_decimal.proofs.LawLemmas.{length-zoned, read_back}
use Rattle.rpg_decimal.proofs.PlaceLemmas.{get_or-digits, length-digits, place_digit}
use Rattle.rpg_decimal.proofs.WholeLemmas.{ten_le}
use Rattle.rpg_decimal.proofs.ZonedLemmas.{last_character-pos}
use Rattle.rpg_records.proofs.Bytes.{binary_back, byte_value-bytes, length-parts, size_pos}
use Rattle.rpg_records.proofs.Halves.{abs_signed, bytes_split, halves-pairs, is_split, length-halves, number_split, packed_back, sign_split}
use Rattle.rpg_records.specs.Binary.{binary_bytes, binary_number, byte_value, lowest_bytes, twos_complement}
use Rattle.rpg_records.specs.Packed.{halves, has_written_sign, is_figure, is_minus_sign, is_packed, is_sign, lowest_pairs, packed_bytes, packed_in, packed_number, packed_sign, pair_byte, sign_digit}
use Rattle.rpg_records.specs.Unpacked.{binary_text, bytes_of_binary_text, bytes_of_packed_text, number_text, packed_text}

-- ---- packed numbers

halves_same : (xs ys : List ℕ) → halves xs ≡ halves ys → xs ≡ ys
halves_same [] [] e = refl
halves_same [] (y ∷ ys) e = cc
halves_same (x ∷ xs) [] e = cc
halves_same (x ∷ xs) (y ∷ ys) e =
    let high : x / 16 ≡ y / 16 = cc in
    let low : x % 16 ≡ y % 16 = cc in
    let rest : halves xs ≡ halves ys = cc in
    let same : x ≡ y = omega (arith, high, low) in
    ap₂ (λ (a : ℕ) (b : List ℕ). a ∷ b) same (halves_same xs ys rest)

figures_below : (ds : List ℕ) → list_all is_figure ds ≡ true → (i : ℕ) → get_or ds i 0 < 10
figures_below [] h i = omega arith
figures_below (d ∷ ds) h zero = ltb-true d 10 (and_parts (is_figure d) (list_all is_figure ds) h).0
figures_below (d ∷ ds) h (suc i) = figures_below ds (and_parts (is_figure d) (list_all is_figure ds) h).1 i

digits_again : (ds : List ℕ) → list_all is_figure ds ≡ true → lowest_digits (length ds) (place_value ds) ≡ ds
digits_again ds h =
    let k = length ds in
    ext_get_or 0 (lowest_digits k (place_value ds)) ds (length-digits k (place_value ds)) (λ i l.
    let inside : i < k = omega (arith, length-digits k (place_value ds)) in
    let at : k - 1 - (k - 1 - i) ≡ i = omega arith in
    get_or-digits k (place_value ds) i inside ∙ place_digit ds (figures_below ds h) (k - 1 - i) (omega arith) ∙ ap (λ (j : ℕ). get_or ds j 0) at)

pairs_again : (front : List ℕ) → list_all is_figure (halves front) ≡ true → lowest_pairs (length front) (place_value (halves front)) ≡ front
pairs_again front h =
    let n = place_value (halves front) in
    halves_same (lowest_pairs (length front) n) front (halves-pairs (length front) n ∙ ap (λ (j : ℕ). lowest_digits j n) (sym (length-halves front)) ∙ digits_again (halves front) h)

split_again : (front : List ℕ) (b : ℕ) → is_packed (front ++ b ∷ []) ≡ true → has_written_sign (front ++ b ∷ []) ≡ true
    → packed_bytes (length (front ++ b ∷ [])) (packed_number (front ++ b ∷ [])) ≡ front ++ b ∷ []
split_again front b valid signed =
    let n = packed_number (front ++ b ∷ []) in
    let v = place_value (halves front) in
    let parts = and_parts (list_all is_figure (halves front ++ b / 16 ∷ [])) (is_sign (b % 16)) (sym (is_split front b) ∙ valid) in
    let both = and_parts (list_all is_figure (halves front)) (list_all is_figure (b / 16 ∷ [])) (sym (list_all-append is_figure (halves front) (b / 16 ∷ [])) ∙ parts.0) in
    let digit : b / 16 < 10 = ltb-true (b / 16) 10 (and_parts (is_figure (b / 16)) true both.1).0 in
    let size : unsigned_abs n ≡ v * 10 + b / 16 = ap unsigned_abs (number_split front b) ∙ abs_signed (is_minus_sign (b % 16)) (v * 10 + b / 16) in
    let sign : sign_digit n ≡ b % 16 = sym (sym (sign_split front b) ∙ eqb-true (packed_sign (front ++ b ∷ [])) (sign_digit n) signed) in
    let places : length (front ++ b ∷ []) - 1 ≡ length front = omega (arith, length_push front b) in
    let high : unsigned_abs n / 10 ≡ v = omega (arith, size, digit) in
    let last : unsigned_abs n % 10 * 16 + sign_digit n ≡ b = omega (arith, size, digit, sign) in
    ap₂ (λ (xs : List ℕ) (c : ℕ). xs ++ c ∷ []) (ap₂ lowest_pairs places high ∙ pairs_again front both.0) last

pub packed_again : (bytes : List ℕ) → 1 ≤ length bytes → is_packed bytes ≡ true → has_written_sign bytes ≡ true → packed_bytes (length bytes) (packed_number bytes) ≡ bytes
packed_again bytes some valid signed =
    let front = take (length bytes - 1) bytes in
    let b = get_or bytes (length bytes - 1) 0 in
    let split : bytes ≡ front ++ b ∷ [] = bytes_split bytes some in
    ap (λ (xs : List ℕ). packed_bytes (length xs) (packed_number xs)) split
    ∙ split_again front b (ap is_packed (sym split) ∙ valid) (ap has_written_sign (sym split) ∙ signed) ∙ sym split

-- ---- binary numbers

abbrev pub AreBytes : List ℕ → Type 0
AreBytes bytes = (i : ℕ) → get_or bytes i 0 < 256

pub in_bytes : (bytes : List ℕ) → All (λ b. b < 256) bytes → AreBytes bytes
in_bytes bytes h i =
    elim (cases_lt i (length bytes)) [
      | inl inside ↦ h i 0 inside
      | inr past ↦ (let none = get_or_past bytes i 0 past in omega (arith, none))
    ]

value_below : (bytes : List ℕ) → AreBytes bytes → byte_value bytes < 256 ^ length bytes
value_below [] h = omega arith
value_below (b ∷ bs) h =
    let rest = value_below bs (λ i. h (suc i)) in
    rw (pow-suc 256 (length bs)) (mul-add-lt b (256 ^ length bs) (byte_value bs) 256 (h 0) rest)

lowest_are : (k n : ℕ) → AreBytes (lowest_bytes k n)
lowest_are zero n i = omega arith
lowest_are (suc k) n zero = omega arith
lowest_are (suc k) n (suc i) = lowest_are k n i

value_same : (xs ys : List ℕ) → length xs ≡ length ys → AreBytes xs → AreBytes ys → byte_value xs ≡ byte_value ys → xs ≡ ys
value_same [] [] l p q e = refl
value_same [] (y ∷ ys) l p q e = absurd (omega (arith, l))
value_same (x ∷ xs) [] l p q e = absurd (omega (arith, l))
value_same (x ∷ xs) (y ∷ ys) l p q e =
    let n = 256 ^ length xs in
    let long : length xs ≡ length ys = omega (arith, l) in
    let other : 256 ^ length ys ≡ n = ap (λ (j : ℕ). 256 ^ j) (sym long) in
    let low = value_below xs (λ i. p (suc i)) in
    let high : byte_value ys < n = omega (arith, value_below ys (λ i. q (suc i)), other) in
    let same : x * n + byte_value xs ≡ y * n + byte_value ys = e ∙ ap (λ (m : ℕ). y * m + byte_value ys) other in
    let first : x ≡ y = sym (div-mul-add x n (byte_value xs) low) ∙ ap (λ (m : ℕ). m / n) same ∙ div-mul-add y n (byte_value ys) high in
    let rest : byte_value xs ≡ byte_value ys =
    sym (mod-mul-add x n (byte_value xs) low) ∙ ap (λ (m : ℕ). m % n) same ∙ mod-mul-add y n (byte_value ys) high in
    ap₂ (λ (a : ℕ) (b : List ℕ). a ∷ b) first (value_same xs ys long (λ i. p (suc i)) (λ i. q (suc i)) rest)

value_again : (bytes : List ℕ) → AreBytes bytes → lowest_bytes (length bytes) (byte_value bytes) ≡ bytes
value_again bytes h =
    let k = length bytes in
    let v = byte_value bytes in
    value_same (lowest_bytes k v) bytes (length-parts (λ m. m % 256) 256 k v) (lowest_are k v) h (byte_value-bytes k v ∙ mod-eq_of_lt (value_below bytes h))

minus_size : (k size d : ℕ) → d ≡ 256 ^ k - size → size < 256 ^ k → twos_complement k (neg_ℤ (pos d)) ≡ size
minus_size k size zero e h = absurd (omega (arith, e, h))
minus_size k size (suc d) e h = omega (arith, e, h)

size_again : (k size : ℕ) → size < 256 ^ k → twos_complement k (if nat_lt (2 * size) (256 ^ k) then pos size else neg_ℤ (pos (256 ^ k - size))) ≡ size
size_again k size h = at (nat_lt (2 * size) (256 ^ k))
  where
    at : (b : Bool) → twos_complement k (cond b (pos size) (neg_ℤ (pos (256 ^ k - size)))) ≡ size
    at true = size_pos k size
    at false = minus_size k size (256 ^ k - size) refl h

pub binary_again : (bytes : List ℕ) → AreBytes bytes → binary_bytes (length bytes) (binary_number bytes) ≡ bytes
binary_again bytes h = ap (lowest_bytes (length bytes)) (size_again (length bytes) (byte_value bytes) (value_below bytes h)) ∙ value_again bytes h

-- ---- digits

pub last_filled : (n : ℤ) → is_blank (last_character n) ≡ false
last_filled (pos a) = ap is_blank (last_character-pos a) ∙ ne_eqb (48 + a % 10) 32 (λ e. omega arith)
last_filled (negsuc a) = agree_below_at (λ n. is_blank (minus_letter n)) (λ _. false) 10 (suc a % 10) refl (omega arith)

filled_digits : (k : ℕ) (n : ℤ) → all_blank (zoned_text k n) ≡ false
filled_digits k n =
    let front = map (λ d. 48 + d) (lowest_digits (k - 1) (unsigned_abs n / 10)) in
    list_all-append is_blank front (last_character n ∷ []) ∙ ap (λ (b : Bool). list_all is_blank front && (b && true)) (last_filled n) ∙ and_right (list_all is_blank front) false refl

-- the digits of a number, of which there are k
pub record AreDigitsOf (k : ℕ) (n : ℤ) (text : List ℕ) : Type 0 where
  pub long : length text ≡ k
  pub filled : all_blank text ≡ false
  pub number : number_in text ≡ Some n
  pub few : unsigned_abs n < 10 ^ k

pub text_of_number : (k : ℕ) (n : ℤ) (text : List ℕ) → 1 ≤ k → number_text k n ≡ Some text → AreDigitsOf k n text
text_of_number k n text some e = at (nat_lt (unsigned_abs n) (10 ^ k)) refl e
  where
    at : (b : Bool) → nat_lt (unsigned_abs n) (10 ^ k) ≡ b → cond b (Some (zoned_text k n)) None ≡ Some text → AreDigitsOf k n text
    at true t e =
        let same : zoned_text k n ≡ text = cc in record {
          long = ap length (sym same) ∙ length-zoned k n some;
          filled = ap all_blank (sym same) ∙ filled_digits k n;
          number = ap number_in (sym same) ∙ read_back k n some (ltb-true (unsigned_abs n) (10 ^ k) t);
          few = ltb-true (unsigned_abs n) (10 ^ k) t;
        }
    at false t e = cc

-- digits that were written for bytes, and are written as these bytes
pub record AreDigitsFor (k : ℕ) (text : List ℕ) (bytes : List ℕ) (written : Option (List ℕ)) : Type 0 where
  pub long : length text ≡ k
  pub filled : all_blank text ≡ false
  pub back : written ≡ Some bytes

pub packed_back_again : (k : ℕ) (bytes text : List ℕ) → 1 ≤ k → 1 ≤ length bytes → has_written_sign bytes ≡ true → packed_text k bytes ≡ Some text
    → AreDigitsFor k text bytes (bytes_of_packed_text (length bytes) text)
packed_back_again k bytes text some low signed e = at (is_packed bytes) refl e
  where
    at : (b : Bool) → is_packed bytes ≡ b → option_and_then (number_text k) (cond b (Some (packed_number bytes)) None) ≡ Some text → AreDigitsFor k text bytes (bytes_of_packed_text (length bytes) text)
    at true valid e =
        let is = text_of_number k (packed_number bytes) text some e in record {
          long = is.long;
          filled = is.filled;
          back = ap (option_map (packed_bytes (length bytes))) is.number ∙ ap Some (packed_again bytes low valid signed);
        }
    at false valid e = cc

pub binary_back_again : (k : ℕ) (bytes text : List ℕ) → 1 ≤ k → AreBytes bytes → binary_text k bytes ≡ Some text → AreDigitsFor k text bytes (bytes_of_binary_text (length bytes) text)
binary_back_again k bytes text some h e =
    let is = text_of_number k (binary_number bytes) text some e in record {
      long = is.long;
      filled = is.filled;
      back = ap (option_map (binary_bytes (length bytes))) is.number ∙ ap Some (binary_again bytes h);
    }

-- bytes of so many that were written for digits, and are read as these digits
pub record AreBytesFor (size : ℕ) (digits bytes : List ℕ) (read : Option (List ℕ)) : Type 0 where
  pub long : length bytes ≡ size
  pub back : read ≡ Some digits

pub packed_forth : (k size : ℕ) (n : ℤ) (digits bytes : List ℕ) → 1 ≤ k → 1 ≤ size → k ≤ 2 * size - 1 → number_text k n ≡ Some digits → bytes_of_packed_text size digits ≡ Some bytes
    → AreBytesFor size digits bytes (packed_text k bytes)
packed_forth k size n digits bytes some low room text e =
    let is = text_of_number k n digits some text in
    let same : packed_bytes size n ≡ bytes = cc (ap (option_map (packed_bytes size)) is.number, e) in
    let front = lowest_pairs (size - 1) (unsigned_abs n / 10) in
    let count : length (front ++ (unsigned_abs n % 10 * 16 + sign_digit n) ∷ []) ≡ size =
    omega (arith, length_push front (unsigned_abs n % 10 * 16 + sign_digit n), length-parts pair_byte 100 (size - 1) (unsigned_abs n / 10)) in
    let fits : unsigned_abs n < 10 ^ (2 * size - 1) = omega (arith, is.few, ten_le k (2 * size - 1) room) in record {
      long = ap length (sym same) ∙ count;
      back = ap (λ (l : List ℕ). option_and_then (number_text k) (packed_in l)) (sym same) ∙ ap (option_and_then (number_text k)) (packed_back size n low fits) ∙ text;
    }

pub binary_forth : (k size : ℕ) (n : ℤ) (digits bytes : List ℕ) → 1 ≤ k → 2 * 10 ^ k ≤ 256 ^ size → number_text k n ≡ Some digits → bytes_of_binary_text size digits ≡ Some bytes
    → AreBytesFor size digits bytes (binary_text k bytes)
binary_forth k size n digits bytes some room text e =
    let is = text_of_number k n digits some text in
    let same : binary_bytes size n ≡ bytes = cc (ap (option_map (binary_bytes size)) is.number, e) in record {
      long = ap length (sym same) ∙ length-parts (λ m. m % 256) 256 size (twos_complement size n);
      back = ap (λ l. number_text k (binary_number l)) (sym same) ∙ ap (number_text k) (binary_back size n (omega (arith, is.few, room))) ∙ text;
    }

-- the digits of a binary field fit its bytes
pub binary_room : (size k : ℕ) → (size == 2 || size == 4) ≡ true → k ≤ (if size == 2 then 4 else 9) → 2 * 10 ^ k ≤ 256 ^ size
binary_room size k is few = at (size == 2) refl is few
  where
    at : (b : Bool) → (size == 2) ≡ b → (b || size == 4) ≡ true → k ≤ cond b 4 9 → 2 * 10 ^ k ≤ 256 ^ size
    at true e is few = let two : 256 ^ 2 ≡ 256 ^ size = ap (λ (j : ℕ). 256 ^ j) (sym (eqb-true size 2 e)) in omega (arith, two, ten_le k 4 few)
    at false e is few = let four : 256 ^ 4 ≡ 256 ^ size = ap (λ (j : ℕ). 256 ^ j) (sym (eqb-true size 4 is)) in omega (arith, four, ten_le k 9 few)
