-- The definitions place by place.
use Rattle.std.proofs.Common.{◌≡◌, ◌≢◌, ℕ, zero, suc, ◌+◌, ◌-◌, ◌/◌, ◌%◌, ◌^◌, ◌<◌, ◌≤◌, Bool, true, false, ℤ, pos, negsuc, neg_ℤ, unsigned_abs, List, [], ◌∷◌, ◌++◌, length, map, slice_index, get_or, take, drop, refl, sym, ap, ap₂, ◌∙◌, arith, nat_lt, cond, inl, inr, length-append, div-one, mod-eq_of_lt, ◌↔◌, Some, None, subst, if◌then◌else◌}
use Rattle.std.proofs.lemmas.Grind.{common_steps}
use Rattle.std.proofs.lemmas.List.{places, get_or-append_right, get_or-drop, get_or_past, length-take-le, length-map, get_or-map, ext_get_or, get_or_append_left}
use Rattle.std.proofs.lemmas.Bool.Decides.{nat_tests}
use Rattle.rpg_decimal.proofs.MoveLemmas.{length-overlay_right, front-overlay_right, div-tens}
use Rattle.std.proofs.lemmas.Bool.{cases_lt, le-ltb, lt-ltb, cases_Bool}
use Rattle.std.specs.Int.{is_negative}
use Rattle.rpg_decimal.specs.Laws.{from_right, digit_at, MovesFromRight, MovesFromLeft, MovesDigitsFromRight, MovesDigitsFromLeft, SpellsByPlaces, SpellsPlainly}
use Rattle.rpg_decimal_words.specs.Zoned.{digit_of, is_digit, is_minus, last_of, Spells, zoned_text, last_character, minus_letter, number_in, is_numeric, spelled_number}
use Rattle.rpg_decimal.specs.Source.{moved_right, moved_left}
use Rattle.rpg_decimal.specs.declared.moves.Source.{Source}
use Rattle.rpg_decimal.specs.declared.moves.Source.TheVariants.{Number, Text}
use Rattle.rpg_decimal_words.specs.Move.{overlay_right, overlay_left, number_moved_right, number_moved_left}
use Rattle.rpg_decimal_words.specs.Place.{place_value, lowest_digits, signed_number}
use Rattle.rpg_decimal.proofs.PlaceLemmas.{place_value-below, place_digit, length-digits, get_or-digits, get_or-digits-below, digits-from_right, place_value-digits}
use Rattle.rpg_decimal.proofs.ZonedLemmas.{valid_from_numeric, numeric_from_valid, Spells-zoned, digit_stands, is_minus-letter, last_of_push, last_character-pos, number_some}
use Rattle.rpg_decimal.proofs.WholeLemmas.{unsigned_abs-neg}

-- ---- numbers with a sign

pub size-signed : (b : Bool) (ds : List ℕ) → unsigned_abs (signed_number b ds) ≡ place_value ds
size-signed true ds = unsigned_abs-neg (place_value ds)
size-signed false ds = refl

negative-neg : (m : ℕ) → neg_ℤ (pos m) ≢ pos 0 → is_negative (neg_ℤ (pos m)) ≡ true
negative-neg zero h = absurd (h refl)
negative-neg (suc m) h = refl

pub negative-signed : (b : Bool) (ds : List ℕ) → signed_number b ds ≢ pos 0 → is_negative (signed_number b ds) ≡ b
negative-signed true ds h = negative-neg (place_value ds) h
negative-signed false ds h = le-ltb (place_value ds) 0 (omega arith)

-- ---- moves of lists

-- the places that the source reaches
following-overlay_right : (s o : List ℕ) (j : ℕ) → length o - length s ≤ j → get_or (overlay_right s o) j 0 ≡ get_or s (length s - length o + (j - (length o - length s))) 0
following-overlay_right s o j h =
    let k = length o - length s in
    get_or-append_right (take k o) (drop (length s - length o) s) k j 0 (length-take-le k o (omega arith)) h
    ∙ get_or-drop (length s - length o) s (j - k) 0

right_place : (s o : List ℕ) (i : ℕ) → i < length o → from_right (overlay_right s o) i ≡ (if nat_lt i (length s) then from_right s i else from_right o i)
right_place s o i h =
    let long = ap (λ n. get_or (overlay_right s o) (n - 1 - i) 0) (length-overlay_right s o) in
    elim (cases_lt i (length s)) [
      | inl inside ↦
          let at : length s - length o + ((length o - 1 - i) - (length o - length s)) ≡ length s - 1 - i = omega arith in
          long ∙ following-overlay_right s o (length o - 1 - i) (omega arith) ∙ ap (λ j. get_or s j 0) at
          ∙ sym (ap (λ b. cond b (from_right s i) (from_right o i)) (lt-ltb i (length s) inside))
      | inr beyond ↦
          long ∙ front-overlay_right s o (length o - 1 - i) (omega arith)
          ∙ sym (ap (λ b. cond b (from_right s i) (from_right o i)) (le-ltb i (length s) beyond))
    ]

pub right_places : (source old : List ℕ) → MovesFromRight source old (overlay_right source old)
right_places source old = record { long = length-overlay_right source old; places = right_place source old }

left_place : (source old : List ℕ) (i : ℕ) → i < length old → slice_index (overlay_left source old) i ≡ (if nat_lt i (length source) then slice_index source i else slice_index old i)
left_place source old i h = grind (arith, common_steps, places)

left_long : (source old : List ℕ) → length (overlay_left source old) ≡ length old
left_long source old = grind (arith, common_steps, places)

pub left_places : (source old : List ℕ) → MovesFromLeft source old (overlay_left source old)
left_places source old = record { long = left_long source old; places = left_place source old }

-- ---- moves of digits

-- each place of a choice of two is below ten
chosen-below : (b : Bool) (x y : ℕ) → x < 10 → y < 10 → cond b x y < 10
chosen-below true x y h k = h
chosen-below false x y h k = k

-- digits that go over digits are digits
right-below : (s o : List ℕ) → ((i : ℕ) → get_or s i 0 < 10) → ((i : ℕ) → get_or o i 0 < 10) → (j : ℕ) → get_or (overlay_right s o) j 0 < 10
right-below s o hs ho j =
    let k = length o - length s in
    elim (cases_lt j k) [
      | inl front ↦ rw (front-overlay_right s o j (omega arith)) (ho j)
      | inr following ↦ rw (following-overlay_right s o j following) (hs (length s - length o + (j - k)))
    ]

left-below : (s o : List ℕ) → ((i : ℕ) → get_or s i 0 < 10) → ((i : ℕ) → get_or o i 0 < 10) → (j : ℕ) → get_or (overlay_left s o) j 0 < 10
left-below s o hs ho j =
    elim (cases_lt j (length o)) [
      | inl inside ↦ rw (left_place s o j inside) (chosen-below (nat_lt j (length s)) (get_or s j 0) (get_or o j 0) (hs j) (ho j))
      | inr beyond ↦ let long = left_long s o in rw (get_or_past (overlay_left s o) j 0 (omega arith)) (omega arith)
    ]

-- a choice by one test, of equal values where they are chosen
choice : (i k x y u v : ℕ) → (i < k → x ≡ u) → y ≡ v → cond (nat_lt i k) x y ≡ cond (nat_lt i k) u v
choice i k x y u v first second =
    elim (cases_lt i k) [
      | inl l ↦ ap₂ (λ b z. cond b z y) (lt-ltb i k l) (first l) ∙ sym (ap (λ b. cond b u v) (lt-ltb i k l))
      | inr g ↦ ap₂ (λ b z. cond b x z) (le-ltb i k g) second ∙ sym (ap (λ b. cond b u v) (le-ltb i k g))
    ]

negative-choice : (b : Bool) (x y : ℤ) → is_negative (cond b x y) ≡ cond b (is_negative x) (is_negative y)
negative-choice true x y = refl
negative-choice false x y = refl

pub right_digits : (k : ℕ) (n : ℤ) (len : ℕ) (old : ℤ) → MovesDigitsFromRight k n len old (number_moved_right k n len old)
right_digits k n len old =
    let s = lowest_digits k (unsigned_abs n) in
    let o = lowest_digits len (unsigned_abs old) in
    let ds = overlay_right s o in
    let long_s = length-digits k (unsigned_abs n) in
    let long_o = length-digits len (unsigned_abs old) in
    let long : length ds ≡ len = length-overlay_right s o ∙ long_o in
    let ten = right-below s o (get_or-digits-below k (unsigned_abs n)) (get_or-digits-below len (unsigned_abs old)) in
    let size = size-signed (is_negative n) ds in
    record {
      fits = rw (size, sym (ap (λ j. 10 ^ j) long)) (place_value-below ds ten);
      digits = λ i h.
          ap (λ m. m / 10 ^ i % 10) size ∙ place_digit ds ten i (omega arith)
          ∙ right_place s o i (omega arith)
          ∙ ap (λ m. cond (nat_lt i m) (from_right s i) (from_right o i)) long_s
          ∙ choice i k (from_right s i) (from_right o i) (digit_at n i) (digit_at old i) (digits-from_right k (unsigned_abs n) i) (digits-from_right len (unsigned_abs old) i h);
      sign = negative-signed (is_negative n) ds;
    }

pub left_digits : (k : ℕ) (n : ℤ) (len : ℕ) (old : ℤ) → MovesDigitsFromLeft k n len old (number_moved_left k n len old)
left_digits k n len old =
    let s = lowest_digits k (unsigned_abs n) in
    let o = lowest_digits len (unsigned_abs old) in
    let ds = overlay_left s o in
    let b = is_negative (if nat_lt k len then old else n) in
    let long_s = length-digits k (unsigned_abs n) in
    let long_o = length-digits len (unsigned_abs old) in
    let long : length ds ≡ len = left_long s o ∙ long_o in
    let ten = left-below s o (get_or-digits-below k (unsigned_abs n)) (get_or-digits-below len (unsigned_abs old)) in
    let size = size-signed b ds in
    record {
      fits = rw (size, sym (ap (λ j. 10 ^ j) long)) (place_value-below ds ten);
      digits = λ i h.
          let at : length ds - 1 - (len - 1 - i) ≡ i = omega arith in
          ap (λ m. m / 10 ^ (len - 1 - i) % 10) size ∙ place_digit ds ten (len - 1 - i) (omega arith) ∙ ap (λ j. get_or ds j 0) at
          ∙ left_place s o i (omega arith)
          ∙ ap (λ m. cond (nat_lt i m) (get_or s i 0) (get_or o i 0)) long_s
          ∙ choice i k (get_or s i 0) (get_or o i 0) (digit_at n (k - 1 - i)) (digit_at old (len - 1 - i)) (get_or-digits k (unsigned_abs n) i) (get_or-digits len (unsigned_abs old) i h);
      sign = λ h. negative-signed b ds h ∙ negative-choice (nat_lt k len) old n;
    }

-- ---- texts

digit_of-below : (c : ℕ) → digit_of c < 10
digit_of-below c = grind (arith, nat_tests)

character_digit : (text : List ℕ) (i : ℕ) → i < length text → get_or (map digit_of text) i 0 ≡ digit_of (get_or text i 0)
character_digit text i h = get_or-map digit_of text i 0 0 h

characters-below : (text : List ℕ) (i : ℕ) → get_or (map digit_of text) i 0 < 10
characters-below text i =
    elim (cases_lt i (length text)) [
      | inl h ↦ rw (character_digit text i h) (digit_of-below (get_or text i 0))
      | inr h ↦ rw (get_or_past (map digit_of text) i 0 (omega (arith, length-map text digit_of))) (omega arith)
    ]

spelled_by_places : (text : List ℕ) (n : ℤ) → Spells text n → SpellsByPlaces text n
spelled_by_places text n h =
    let ds = map digit_of text in
    let b = is_minus (last_of text) in
    let long = length-map text digit_of in
    let size : unsigned_abs n ≡ place_value ds = ap unsigned_abs h.value ∙ size-signed b ds in
    record {
      valid = valid_from_numeric text h.valid;
      fits = rw (size, sym (ap (λ j. 10 ^ j) long)) (place_value-below ds (characters-below text));
      digits = λ i l.
          let at : length ds - 1 - i < length text = omega arith in
          sym (ap (λ m. m / 10 ^ i % 10) size ∙ place_digit ds (characters-below text) i (omega arith) ∙ character_digit text (length ds - 1 - i) at ∙ ap (λ m. digit_of (get_or text (m - 1 - i) 0)) long);
      sign = h.value ∙ sym (ap (λ m. cond b (neg_ℤ (pos m)) (pos m)) size);
    }

by_places_spelled : (text : List ℕ) (n : ℤ) → SpellsByPlaces text n → Spells text n
by_places_spelled text n h =
    let ds = map digit_of text in
    let b = is_minus (last_of text) in
    let k = length text in
    let long = length-map text digit_of in
    let same : ds ≡ lowest_digits k (unsigned_abs n) =
    ext_get_or 0 ds (lowest_digits k (unsigned_abs n)) (long ∙ sym (length-digits k (unsigned_abs n)))
    (λ i l.
    let inside : i < k = omega arith in
    let at : k - 1 - (k - 1 - i) ≡ i = omega arith in
    character_digit text i inside ∙ ap (λ j. digit_of (get_or text j 0)) (sym at) ∙ h.digits (k - 1 - i) (omega arith) ∙ sym (get_or-digits k (unsigned_abs n) i inside)) in
    let size : place_value ds ≡ unsigned_abs n = ap place_value same ∙ place_value-digits k (unsigned_abs n) ∙ mod-eq_of_lt h.fits in
    record {
      valid = numeric_from_valid text h.valid;
      value = h.sign ∙ sym (ap (λ m. cond b (neg_ℤ (pos m)) (pos m)) size);
    }

pub spells_either : (text : List ℕ) (n : ℤ) → Spells text n ↔ SpellsByPlaces text n
spells_either text n = (spelled_by_places text n, by_places_spelled text n)

-- ---- the plain text

front_characters : (k m c i : ℕ) → i + 1 < length (map (λ d. 48 + d) (lowest_digits k m) ++ c ∷ []) → get_or (map (λ d. 48 + d) (lowest_digits k m) ++ c ∷ []) i 0 ≡ 48 + m / 10 ^ (k - 1 - i) % 10
front_characters k m c i h =
    let front = map (λ d. 48 + d) (lowest_digits k m) in
    let long : length front ≡ k = length-map (lowest_digits k m) (λ d. 48 + d) ∙ length-digits k m in
    let whole = length-append front (c ∷ []) in
    get_or_append_left front (c ∷ []) 0 i (omega arith)
    ∙ get_or-map (λ d. 48 + d) (lowest_digits k m) i 0 0 (omega (arith, length-digits k m))
    ∙ ap (λ d. 48 + d) (get_or-digits k m i (omega arith))

last_plain : (k : ℕ) (n : ℤ) → (if is_negative n then is_minus (last_of (zoned_text k n)) else is_digit (last_of (zoned_text k n))) ≡ true
last_plain k (pos a) =
    ap (λ b. cond b (is_minus (last_of (zoned_text k (pos a)))) (is_digit (last_of (zoned_text k (pos a))))) (le-ltb a 0 (omega arith))
    ∙ ap is_digit (last_of_push (map (λ d. 48 + d) (lowest_digits (k - 1) (a / 10))) (last_character (pos a)) ∙ last_character-pos a)
    ∙ digit_stands (a % 10) (omega arith)
last_plain k (negsuc a) =
    ap is_minus (last_of_push (map (λ d. 48 + d) (lowest_digits (k - 1) (suc a / 10))) (minus_letter (suc a % 10))) ∙ is_minus-letter (suc a % 10) (omega arith)

pub plain_zoned : (k : ℕ) (n : ℤ) → 1 ≤ k → unsigned_abs n < 10 ^ k → SpellsPlainly (zoned_text k n) n
plain_zoned k n low h = record {
  spells = Spells-zoned k n low h;
  front = λ i l. ap is_digit (front_characters (k - 1) (unsigned_abs n / 10) (last_character n) i l) ∙ digit_stands (unsigned_abs n / 10 / 10 ^ (k - 1 - 1 - i) % 10) (omega arith);
  last = last_plain k n;
}

digit_is : (c : ℕ) → is_digit c ≡ true → c ≡ 48 + digit_of c
digit_is c h = grind (arith, nat_tests)

letter_is : (c : ℕ) → is_minus c ≡ true → c ≡ minus_letter (digit_of c)
letter_is c h = grind (arith, nat_tests)

pub length-zoned : (k : ℕ) (n : ℤ) → 1 ≤ k → length (zoned_text k n) ≡ k
length-zoned k n h =
    let ds = lowest_digits (k - 1) (unsigned_abs n / 10) in
    length-append (map (λ d. 48 + d) ds) (last_character n ∷ [])
    ∙ ap (λ m. m + 1) (length-map ds (λ d. 48 + d) ∙ length-digits (k - 1) (unsigned_abs n / 10)) ∙ omega arith

last_is : (c : ℕ) (n : ℤ) → digit_of c ≡ unsigned_abs n % 10 → (if is_negative n then is_minus c else is_digit c) ≡ true → c ≡ last_character n
last_is c (pos a) d h =
    let test : is_digit c ≡ true = sym (ap (λ b. cond b (is_minus c) (is_digit c)) (le-ltb a 0 (omega arith))) ∙ h in
    digit_is c test ∙ ap (λ x. 48 + x) d ∙ sym (last_character-pos a)
last_is c (negsuc a) d h = letter_is c h ∙ ap minus_letter d

pub plain_alone : (text : List ℕ) (n : ℤ) → 1 ≤ length text → SpellsPlainly text n → text ≡ zoned_text (length text) n
plain_alone text n some p =
    let k = length text in
    let q = spelled_by_places text n p.spells in
    let m = unsigned_abs n in
    let long = length-zoned k n some in
    let digit : (i : ℕ) → i < k → digit_of (get_or text i 0) ≡ m / 10 ^ (k - 1 - i) % 10 = λ i l.
    (let at : k - 1 - (k - 1 - i) ≡ i = omega arith in
    ap (λ j. digit_of (get_or text j 0)) (sym at) ∙ q.digits (k - 1 - i) (omega arith)) in
    ext_get_or 0 text (zoned_text k n) (sym long)
    (λ i l. elim (cases_lt (i + 1) k) [
      | inl front ↦
          let following : k - 1 - i ≡ 1 + (k - 1 - 1 - i) = omega arith in
          digit_is (get_or text i 0) (p.front i front)
          ∙ ap (λ d. 48 + d) (digit i l ∙ ap (λ x. x % 10) (ap (λ j. m / 10 ^ j) following ∙ sym (div-tens m 1 (k - 1 - 1 - i))))
          ∙ sym (front_characters (k - 1) (m / 10) (last_character n) i (omega arith))
      | inr end ↦
          let here : i ≡ k - 1 = omega arith in
          let zero_after : k - 1 - (k - 1) ≡ 0 = omega arith in
          ap (λ j. get_or text j 0) here
          ∙ last_is (get_or text (k - 1) 0) n (digit (k - 1) (omega arith) ∙ ap (λ j. m / 10 ^ j % 10) zero_after ∙ ap (λ x. x % 10) (div-one m)) p.last
          ∙ sym (last_of_push (map (λ d. 48 + d) (lowest_digits (k - 1) (m / 10))) (last_character n))
          ∙ ap (λ j. get_or (zoned_text k n) (j - 1) 0) long
          ∙ sym (ap (λ j. get_or (zoned_text k n) j 0) here)
    ])

-- ---- reading as a function

spelled_in : (text : List ℕ) (n : ℤ) → number_in text ≡ Some n → Spells text n
spelled_in text n h =
    elim (cases_Bool (is_numeric text)) [
      | inl valid ↦ let here = number_some text valid in record { valid = valid; value = cc }
      | inr bad ↦ let none : number_in text ≡ None = ap (λ b. cond b (Some (spelled_number text)) None) bad in absurd cc
    ]

in_spelled : (text : List ℕ) (n : ℤ) → Spells text n → number_in text ≡ Some n
in_spelled text n h = number_some text h.valid ∙ ap Some (sym h.value)

pub read_either : (text : List ℕ) (n : ℤ) → (number_in text ≡ Some n) ↔ Spells text n
read_either text n = (spelled_in text n, in_spelled text n)

pub read_back : (k : ℕ) (n : ℤ) → 1 ≤ k → unsigned_abs n < 10 ^ k → number_in (zoned_text k n) ≡ Some n
read_back k n low h = in_spelled (zoned_text k n) n (Spells-zoned k n low h)

-- ---- what is moved fits

read_fits : (text : List ℕ) (len : ℕ) (n : ℤ) → length text ≡ len → number_in text ≡ Some n → unsigned_abs n < 10 ^ len
read_fits text len n long h = rw (sym (ap (λ j. 10 ^ j) long)) ((spelled_by_places text n (spelled_in text n h)).fits)

pub right_fits : (source : Source) (len : ℕ) (old n : ℤ) → 1 ≤ len → moved_right source len old ≡ Some n → unsigned_abs n < 10 ^ len
right_fits (Number f) len old n low h =
    let e : number_moved_right f.len f.value len old ≡ n = cc in
    subst (λ z. unsigned_abs z < 10 ^ len) e ((right_digits f.len f.value len old).fits)
right_fits (Text t) len old n low h =
    read_fits (overlay_right t.now (zoned_text len old)) len n (length-overlay_right t.now (zoned_text len old) ∙ length-zoned len old low) h

pub left_fits : (source : Source) (len : ℕ) (old n : ℤ) → 1 ≤ len → moved_left source len old ≡ Some n → unsigned_abs n < 10 ^ len
left_fits (Number f) len old n low h =
    let e : number_moved_left f.len f.value len old ≡ n = cc in
    subst (λ z. unsigned_abs z < 10 ^ len) e ((left_digits f.len f.value len old).fits)
left_fits (Text t) len old n low h =
    read_fits (overlay_left t.now (zoned_text len old)) len n (left_long t.now (zoned_text len old) ∙ length-zoned len old low) h
