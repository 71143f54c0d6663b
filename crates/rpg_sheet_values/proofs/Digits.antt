-- The number that at most ten digits write.
use Rattle.std.proofs.Common.{◌≡◌, ℕ, ◌+◌, ◌-◌, ◌*◌, ◌^◌, ◌<◌, ◌≤◌, true, false, Bool, List, [], ◌∷◌, ◌++◌, length, get_or, drop, refl, sym, ap, ◌∙◌, arith, lit<, length-append, Some}
use Rattle.std.specs.Prelude.{IsTrue, ◌&&◌}
use Rattle.std.specs.List.{list_all}
use Rattle.std.specs.Char.{is_ascii_digit, digit_value}
use Rattle.std.specs.Str.Parse.{AllDigits, digits_value, digits_value_after}
use Rattle.std.proofs.Math.Nat.{pow-le-pow_right, one-le-pow}
use Rattle.std.proofs.lemmas.Str.{digit_value_digit}
use Rattle.std.proofs.lemmas.List.Folds.{list_all-append}
use Rattle.std.proofs.lemmas.Int.Digits.{digits_value-lt}
use Rattle.std.proofs.lemmas.Grind.{common_steps, pow_more}
use Rattle.rpg_sheet_specs.specs.Values.{when}

-- a character that is a digit
pub is_digit : (c : ℕ) → is_ascii_digit c ≡ true → (48 ≤ c) × (c ≤ 57)
is_digit c e = (grind (arith, common_steps), grind (arith, common_steps))

-- a further digit makes a number below the next power of ten
pub more_fits : (i v d : ℕ) → v < 10 ^ i → d ≤ 9 → v * 10 + d < 10 ^ (i + 1)
more_fits i v d h l = omega (arith, pow_more 10 i)

pub ten_digits_fit : (i v : ℕ) → i ≤ 10 → v < 10 ^ i → v < 10 ^ 10
ten_digits_fit i v l h = let most : 10 ^ i ≤ 10 ^ 10 = pow-le-pow_right (lit< tt) l in omega arith

pub four_digits_fit : (i v : ℕ) → i ≤ 4 → v < 10 ^ i → v < 10 ^ 4
four_digits_fit i v l h = let most : 10 ^ i ≤ 10 ^ 4 = pow-le-pow_right (lit< tt) l in omega arith

all_digits : (text : List ℕ) → IsTrue (list_all is_ascii_digit text) → AllDigits 10 text
all_digits [] all = tt
all_digits (c ∷ cs) all = by (is_ascii_digit c) refl (all_digits cs) all
  where
    by : (b : Bool) → is_ascii_digit c ≡ b → (IsTrue (list_all is_ascii_digit cs) → AllDigits 10 cs) → IsTrue (b && list_all is_ascii_digit cs) → AllDigits 10 (c ∷ cs)
    by true e others more = (let d = is_digit c e in let is = digit_value_digit c d in omega arith, others more)
    by false e others more = absurd cc

-- so many digits write a number below that power of ten
pub digits_fit : (text : List ℕ) → IsTrue (list_all is_ascii_digit text) → digits_value 10 text < 10 ^ length text
digits_fit text all = digits_value-lt 10 text (all_digits text all)

-- digits after others
pub digits_value_after-append : (xs ys : List ℕ) (n : ℕ) → digits_value_after 10 n (xs ++ ys) ≡ digits_value_after 10 (digits_value_after 10 n xs) ys
digits_value_after-append [] ys n = refl
digits_value_after-append (x ∷ xs) ys n = digits_value_after-append xs ys (n * 10 + digit_value x)

-- one digit more is read
pub value_more : (text : List ℕ) (i v : ℕ) → i < length text → (48 ≤ get_or text i 0) × (get_or text i 0 ≤ 57)
    → digits_value_after 10 (v * 10 + (get_or text i 0 - 48)) (drop (i + 1) text) ≡ digits_value_after 10 v (drop i text)
value_more text i v within digit =
    let is = digit_value_digit (get_or text i 0) digit in
    let d : digit_value (get_or text i 0) ≡ get_or text i 0 - 48 = omega arith in
    let cut : drop i text ≡ get_or text i 0 ∷ drop (i + 1) text = grind (arith, common_steps) in
    ap (λ (n : ℕ). digits_value_after 10 (v * 10 + n) (drop (i + 1) text)) (sym d) ∙ ap (λ (ds : List ℕ). digits_value_after 10 v ds) (sym cut)

-- what digits write has room for further ones
pub has_room : (text : List ℕ) (more : ℕ) → IsTrue (list_all is_ascii_digit text) → length text + more ≤ 10 → digits_value 10 text < 10 ^ (10 - more)
has_room text more all short =
    let below = digits_fit text all in
    let most : 10 ^ length text ≤ 10 ^ (10 - more) = pow-le-pow_right (lit< tt) (omega arith) in
    omega arith

pub nothing_has_room : (n : ℕ) → 0 < 10 ^ n
nothing_has_room n = one-le-pow n 10 (lit< tt)

-- digits in two parts
pub both_fit : (whole following : List ℕ) → IsTrue (list_all is_ascii_digit whole) → IsTrue (list_all is_ascii_digit following)
    → digits_value 10 (whole ++ following) < 10 ^ (length whole + length following)
both_fit whole following all more =
    rw (sym (length-append whole following))
    (digits_fit (whole ++ following) (rw (list_all-append is_ascii_digit whole following, all, more) refl))

-- a value there is only under a test that holds
pub when_some : (b : Bool) (x y : ℕ) → when b x ≡ Some y → (b ≡ true) × (x ≡ y)
when_some true x y e = (refl, cc)
when_some false x y e = absurd cc
