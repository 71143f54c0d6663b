-- The number of digits, one after the other.
use Rattle.std.proofs.Common.{◌≡◌, ℕ, suc, ◌+◌, ◌-◌, ◌*◌, ◌^◌, ◌<◌, ◌≤◌, ◌&&◌, not, Bool, true, false, cond, List, [], ◌∷◌, drop, length, length-drop, length-take, map, take, take_all, refl, sym, ap, ap₂, ◌∙◌, arith, pow-suc, ◌++◌, append-nil, Option, None, Some, inl, inr, ℤ, unsigned_abs}
use Rattle.std.proofs.Math.Nat.{le-mul_of_pos_right, one-le-pow, pow-le-pow_right}
use Rattle.std.proofs.Math.Seq.{drop-append_seam}
use Rattle.std.proofs.lemmas.Bool.{cases_lt}
use Rattle.std.specs.List.{list_all}
use Rattle.rpg_decimal_words.specs.Place.{place_value}
use Rattle.rpg_decimal_words.specs.Zoned.{digit_of, is_digit, is_letter_from}
use Rattle.rpg_csv_values.specs.Numbers.{counted, digits_number, is_separator, ungrouped}

-- one more digit after a number
abbrev pub next_number : ℕ → ℕ → ℕ
next_number n c = counted (counted (n * 10) + (c - 48))

-- the number of the digits that follow, after this number
abbrev pub digits_after : Option ℕ → ℕ → List ℕ → Option ℕ
digits_after group n [] = Some n
digits_after group n (c ∷ cs) =
    cond (is_separator group c) (digits_after group n cs) (cond (is_digit c) (digits_after group (next_number n c) cs) None)

-- the same by their places
abbrev pub number_after : ℕ → List ℕ → Option ℕ
number_after n ds = cond (list_all is_digit ds) (Some (counted (n * 10 ^ length (map digit_of ds) + place_value (map digit_of ds)))) None

-- a number that was cut is still too large
counted_more : (x p q : ℕ) → 1 ≤ p → counted (counted x * p + q) ≡ counted (x * p + q)
counted_more x p q h = elim (cases_lt x (2 ^ 64)) [
  | inl low ↦ let e : counted x ≡ x = omega arith in ap (λ (n : ℕ). counted (n * p + q)) e
  | inr high ↦
      let e : counted x ≡ 2 ^ 64 - 1 = omega arith in
      let grown : x ≤ x * p = le-mul_of_pos_right x h in
      let cut : counted ((2 ^ 64 - 1) * p + q) ≡ counted (x * p + q) = omega (arith, grown, high, h) in
      ap (λ (n : ℕ). counted (n * p + q)) e ∙ cut
]

digit_next : (n c : ℕ) (ds : List ℕ) → is_digit c ≡ true
    → counted (next_number n c * 10 ^ length (map digit_of ds) + place_value (map digit_of ds)) ≡ counted (n * 10 ^ suc (length (map digit_of ds)) + (digit_of c * 10 ^ length (map digit_of ds) + place_value (map digit_of ds)))
digit_next n c ds d =
    let p = 10 ^ length (map digit_of ds) in
    let v = place_value (map digit_of ds) in
    let one : next_number n c ≡ counted (n * 10 + (c - 48)) = omega arith in
    let digit : digit_of c ≡ c - 48 = ap (λ (b : Bool). cond b (c - 48) (cond (is_letter_from 65 c) (c - 64) (cond (is_letter_from 74 c) (c - 73) 0))) d in
    let high : n * 10 ^ suc (length (map digit_of ds)) ≡ n * 10 * p = omega (arith, ap (λ (q : ℕ). n * q) (pow-suc 10 (length (map digit_of ds)))) in
    let low : digit_of c * p ≡ (c - 48) * p = ap (λ (k : ℕ). k * p) digit in
    let split : (n * 10 + (c - 48)) * p + v ≡ n * 10 ^ suc (length (map digit_of ds)) + (digit_of c * p + v) = omega (arith, high, low) in
    ap (λ (k : ℕ). counted (k * p + v)) one ∙ counted_more (n * 10 + (c - 48)) p v (one-le-pow (length (map digit_of ds)) 10 (omega arith)) ∙ ap (λ (k : ℕ). counted k) split

-- a digit
digit_step : (n c : ℕ) (us : List ℕ) (l : Bool) → is_digit c ≡ true → list_all is_digit us ≡ l → number_after (next_number n c) us ≡ number_after n (c ∷ us)
digit_step n c us true e f =
    let a = Some (counted (next_number n c * 10 ^ length (map digit_of us) + place_value (map digit_of us))) in
    let b = Some (counted (n * 10 ^ suc (length (map digit_of us)) + (digit_of c * 10 ^ length (map digit_of us) + place_value (map digit_of us)))) in
    ap (λ (x : Bool). cond x a None) f ∙ ap (λ (k : ℕ). Some k) (digit_next n c us e) ∙ sym (ap₂ (λ (x y : Bool). cond (x && y) b None) e f)
digit_step n c us false e f =
    let a = Some (counted (next_number n c * 10 ^ length (map digit_of us) + place_value (map digit_of us))) in
    let b = Some (counted (n * 10 ^ suc (length (map digit_of us)) + (digit_of c * 10 ^ length (map digit_of us) + place_value (map digit_of us)))) in
    ap (λ (x : Bool). cond x a None) f ∙ sym (ap₂ (λ (x y : Bool). cond (x && y) b None) e f)

-- any byte
byte_step : (group : Option ℕ) (n c : ℕ) (cs us : List ℕ) (s d : Bool) → is_digit c ≡ d → digits_after group n cs ≡ number_after n us
    → digits_after group (next_number n c) cs ≡ number_after (next_number n c) us
    → cond s (digits_after group n cs) (cond d (digits_after group (next_number n c) cs) None) ≡ number_after n (cond (not s) (c ∷ us) us)
byte_step group n c cs us true d e same more = same
byte_step group n c cs us false true e same more = more ∙ digit_step n c us (list_all is_digit us) e refl
byte_step group n c cs us false false e same more =
    sym (ap (λ (x : Bool). cond (x && list_all is_digit us) (Some (counted (n * 10 ^ suc (length (map digit_of us)) + (digit_of c * 10 ^ length (map digit_of us) + place_value (map digit_of us))))) None) e)

counted_within : (n : ℕ) → counted n ≤ 2 ^ 64 - 1
counted_within n = omega arith

after_digits : (group : Option ℕ) (n : ℕ) (text : List ℕ) → n ≤ 2 ^ 64 - 1 → digits_after group n text ≡ number_after n (ungrouped group text)
after_digits group n [] h = let e : n ≡ counted (n * 10 ^ 0 + 0) = omega arith in ap (λ (k : ℕ). Some k) e
after_digits group n (c ∷ cs) h =
    byte_step group n c cs (ungrouped group cs) (is_separator group c) (is_digit c) refl (after_digits group n cs h)
    (after_digits group (next_number n c) cs (counted_within (counted (n * 10) + (c - 48))))

pub all_digits : (group : Option ℕ) (text : List ℕ) → digits_after group 0 text ≡ digits_number group text
all_digits group text =
    let us = ungrouped group text in
    let v = place_value (map digit_of us) in
    let e : 0 * 10 ^ length (map digit_of us) + v ≡ v = omega arith in
    after_digits group 0 text (omega arith) ∙ ap (λ (n : ℕ). cond (list_all is_digit us) (Some (counted n)) None) e

pub few_digits : (n : ℤ) (k : ℕ) → k ≤ 15 → unsigned_abs n < 10 ^ k → unsigned_abs n < 10 ^ 15
few_digits n k h l = let more : 10 ^ k ≤ 10 ^ 15 = pow-le-pow_right (omega arith) h in omega (arith, l, more)

pub nothing_more : (xs : List ℕ) → xs ≡ xs ++ []
nothing_more xs = sym (append-nil xs)

-- ---- printed numbers

-- a text at the end of 32 bytes, from where it begins
pub written_text : (out old text columns : List ℕ) (start width : ℕ) → start + width ≡ 32 → length old ≡ 32 → length out ≡ 32 → out ≡ take (32 - width) old ++ text
    → take (32 - start) (drop start out) ≡ columns → text ≡ columns
written_text out old text columns start width h size kept e same =
    let front : length (take (32 - width) old) ≡ start = omega (arith, length-take (32 - width) old) in
    let rest : drop start out ≡ text = ap (drop start) e ∙ ap (λ (k : ℕ). drop k (take (32 - width) old ++ text)) (sym front) ∙ drop-append_seam (take (32 - width) old) text in
    let all : take (32 - start) (drop start out) ≡ drop start out = take_all (32 - start) (drop start out) (omega (arith, length-drop start out)) in
    sym rest ∙ sym all ∙ same
