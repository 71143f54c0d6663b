-- How literals are written.
use Rattle.std.proofs.Common.{◌≡◌, ℕ, zero, suc, ◌+◌, ◌-◌, ◌<◌, ◌≤◌, Bool, true, false, List, [], ◌∷◌, ◌++◌, length, Option, Some, None, refl, sym, ap, ◌∙◌, arith, inl, inr, take, ℤ, unsigned_abs, length-append, append_assoc, get_or, ◌≢◌, ◌↔◌}
use Rattle.std.specs.Prelude.{position, ◌⊎◌, if◌then◌else◌, not, option_map, slice_range}
use Rattle.std.specs.List.{list_all, position_or_len, before_first, after_first}
use Rattle.std.specs.Char.{is_ascii_digit}
use Rattle.std.specs.Str.Parse.{digits_value}
use Rattle.std.proofs.lemmas.Bool.{cases_lt, eqb-true}
use Rattle.std.proofs.lemmas.Grind.{common_steps}
use Rattle.std.proofs.Math.Seq.{take-suc, take-append_seam, get_or-append_seam}
use Rattle.std.proofs.lemmas.List.{take_all, drop_all, length-take}
use Rattle.std.proofs.lemmas.List.Folds.{list_all-append}
use Rattle.rpg_sheet_specs.specs.Values.{with_sign, numeral, all_digits, when, is_apostrophe, doubled, undoubled, is_enclosed, quoted_of, in_apostrophes}

-- ---- around the first item that passes

pub first_place : (p : ℕ → Bool) (xs : List ℕ) (i : ℕ) → position p xs ≡ Some i → position_or_len p xs ≡ i
first_place p xs i h = by (cases_lt (position_or_len p xs) (length xs))
  where
    by : (position_or_len p xs < length xs) ⊎ (length xs ≤ position_or_len p xs) → position_or_len p xs ≡ i
    by (inl lt) = let e : position p xs ≡ Some (position_or_len p xs) = grind (arith, common_steps) in cc
    by (inr le) = let e : position p xs ≡ None = grind (arith, common_steps) in absurd cc

pub no_place : (p : ℕ → Bool) (xs : List ℕ) → position p xs ≡ None → length xs ≤ position_or_len p xs
no_place p xs h = by (cases_lt (position_or_len p xs) (length xs))
  where
    by : (position_or_len p xs < length xs) ⊎ (length xs ≤ position_or_len p xs) → length xs ≤ position_or_len p xs
    by (inl lt) = let e : position p xs ≡ Some (position_or_len p xs) = grind (arith, common_steps) in absurd cc
    by (inr le) = le

pub before_none : (p : ℕ → Bool) (xs : List ℕ) → position p xs ≡ None → before_first p xs ≡ xs
before_none p xs h = take_all (position_or_len p xs) xs (no_place p xs h)

pub after_none : (p : ℕ → Bool) (xs : List ℕ) → position p xs ≡ None → after_first p xs ≡ []
after_none p xs h = let le = no_place p xs h in drop_all (position_or_len p xs + 1) xs (omega arith)

-- ---- numbers

pub size_of_sign : (minus : Bool) (n : ℕ) → unsigned_abs (with_sign minus n) ≡ n
size_of_sign true zero = refl
size_of_sign true (suc n) = refl
size_of_sign false n = refl

pub numeral_is : (minus : Bool) (whole following : List ℕ) (value : ℤ) → list_all is_ascii_digit whole ≡ true → list_all is_ascii_digit following ≡ true → 0 < length whole + length following
    → value ≡ with_sign minus (digits_value 10 (whole ++ following)) → numeral minus whole following ≡ Some (record { value = value; length = length whole + length following; decimals = length following })
numeral_is minus whole following value all more some e =
    let digits : all_digits (whole ++ following) ≡ true = rw (length-append whole following, list_all-append is_ascii_digit whole following, all, more) (grind (arith, common_steps)) in
    rw (digits, length-append whole following, e) refl

-- ---- texts

undoubled_other : (c : ℕ) (cs : List ℕ) → is_apostrophe c ≡ false → undoubled (c ∷ cs) ≡ option_map (λ (t : List ℕ). c ∷ t) (undoubled cs)
undoubled_other c [] e = rw e refl
undoubled_other c (d ∷ cs) e = rw e refl

undoubled-doubled : (t : List ℕ) → undoubled (doubled t) ≡ Some t
undoubled-doubled [] = refl
undoubled-doubled (c ∷ cs) = by (is_apostrophe c) refl (undoubled-doubled cs)
  where
    by : (b : Bool) → is_apostrophe c ≡ b → undoubled (doubled cs) ≡ Some cs → undoubled (if b then 39 ∷ 39 ∷ doubled cs else c ∷ doubled cs) ≡ Some (c ∷ cs)
    by true e more = rw (more, eqb-true c 39 e) refl
    by false e more = undoubled_other c (doubled cs) e ∙ rw more refl

-- what is made of Some is made of its item
mapped_some : (f : List ℕ → List ℕ) (o : Option (List ℕ)) (t : List ℕ) → option_map f o ≡ Some t → (u : List ℕ) × (o ≡ Some u) × (f u ≡ t)
mapped_some f None t e = absurd cc
mapped_some f (Some u) t e = (u, refl, cc)

pub doubled-undoubled : (s t : List ℕ) → undoubled s ≡ Some t → s ≡ doubled t
doubled-undoubled [] t e = let n : [] ≡ t = cc in rw (sym n) refl
doubled-undoubled (c ∷ []) t e = by (is_apostrophe c) refl e
  where
    by : (b : Bool) → is_apostrophe c ≡ b → when (not b) (c ∷ []) ≡ Some t → c ∷ [] ≡ doubled t
    by true h k = absurd cc
    by false h k = let n : c ∷ [] ≡ t = cc in rw (sym n) (rw h refl)
doubled-undoubled (c ∷ d ∷ cs) t e = by (is_apostrophe c) (is_apostrophe d) refl refl (λ u. doubled-undoubled (d ∷ cs) u) (λ u. doubled-undoubled cs u) e
  where
    by : (a b : Bool) → is_apostrophe c ≡ a → is_apostrophe d ≡ b
        → ((u : List ℕ) → undoubled (d ∷ cs) ≡ Some u → d ∷ cs ≡ doubled u) → ((u : List ℕ) → undoubled cs ≡ Some u → cs ≡ doubled u)
        → (if not a then option_map (λ u. c ∷ u) (undoubled (d ∷ cs)) else if b then option_map (λ u. 39 ∷ u) (undoubled cs) else None) ≡ Some t
        → c ∷ d ∷ cs ≡ doubled t
    by false b h k more less e = let m = mapped_some (λ u. c ∷ u) (undoubled (d ∷ cs)) t e in rw (sym m.2) (rw h (ap (λ (u : List ℕ). c ∷ u) (more m.0 m.1)))
    by true true h k more less e =
        let m = mapped_some (λ u. 39 ∷ u) (undoubled cs) t e in
        rw (sym m.2, eqb-true c 39 h, eqb-true d 39 k) (ap (λ (u : List ℕ). 39 ∷ 39 ∷ u) (less m.0 m.1))
    by true false h k more less e = absurd cc

enclosed : (inner : List ℕ) → 0 < length inner → is_enclosed (39 ∷ inner ++ 39 ∷ []) ≡ true
enclosed inner some =
    let long = length-append inner (39 ∷ []) in
    let i : length (39 ∷ inner ++ 39 ∷ []) - 1 ≡ length (39 ∷ inner) = omega arith in
    let last : get_or (39 ∷ inner ++ 39 ∷ []) (length (39 ∷ inner ++ 39 ∷ []) - 1) 0 ≡ 39 = rw i (get_or-append_seam (39 ∷ inner) 39 [] 0) in
    rw last (grind (arith, common_steps))

between : (inner : List ℕ) → slice_range (39 ∷ inner ++ 39 ∷ []) 1 (length (39 ∷ inner ++ 39 ∷ []) - 1) ≡ inner
between inner =
    let long = length-append inner (39 ∷ []) in
    let i : length (39 ∷ inner ++ 39 ∷ []) - 1 - 1 ≡ length inner = omega arith in
    rw i (take-append_seam inner (39 ∷ []))

-- the last item after the others
last_cut : (xs : List ℕ) → 0 < length xs → xs ≡ take (length xs - 1) xs ++ get_or xs (length xs - 1) 0 ∷ []
last_cut xs some = sym (take_all (suc (length xs - 1)) xs (omega arith)) ∙ take-suc xs (length xs - 1) 0 (omega arith)

pub enclosed_is : (text : List ℕ) → is_enclosed text ≡ true → (text ≡ 39 ∷ slice_range text 1 (length text - 1) ++ 39 ∷ []) × (0 < length (slice_range text 1 (length text - 1)))
enclosed_is [] e = absurd cc
enclosed_is (c ∷ cs) e =
    let long : 2 < length (c ∷ cs) = grind (arith, common_steps) in
    let first : c ≡ 39 = grind (arith, common_steps) in
    let last : get_or (c ∷ cs) (length (c ∷ cs) - 1) 0 ≡ 39 = grind (arith, common_steps) in
    let i : length (c ∷ cs) - 1 - 1 ≡ length cs - 1 = omega arith in
    let j : length (c ∷ cs) - 1 ≡ suc (length cs - 1) = omega arith in
    let end : get_or cs (length cs - 1) 0 ≡ 39 = rw j at last in
    let cut = last_cut cs (omega arith) in
    (rw (i, first) (ap (λ (xs : List ℕ). 39 ∷ xs) (cut ∙ rw end refl)), rw i (omega (arith, length-take (length cs - 1) cs)))

doubled_some : (t : List ℕ) → t ≢ [] → 0 < length (doubled t)
doubled_some [] some = absurd (some refl)
doubled_some (c ∷ cs) some = by (is_apostrophe c)
  where
    by : (b : Bool) → 0 < length (if b then 39 ∷ 39 ∷ doubled cs else c ∷ doubled cs)
    by true = omega arith
    by false = omega arith

-- a text in apostrophes stands for what is written so
pub quoted_writes : (text t : List ℕ) → (quoted_of text ≡ Some t) ↔ ((text ≡ in_apostrophes t) × (t ≢ []))
quoted_writes text t = (there (is_enclosed text) refl, back)
  where
    there : (b : Bool) → is_enclosed text ≡ b → (if b then undoubled (slice_range text 1 (length text - 1)) else None) ≡ Some t → (text ≡ in_apostrophes t) × (t ≢ [])
    there true h e =
        let is = enclosed_is text h in
        let inner = doubled-undoubled (slice_range text 1 (length text - 1)) t e in
        (is.0 ∙ ap (λ (i : List ℕ). 39 ∷ i ++ 39 ∷ []) inner, λ nil. let none : length (doubled t) ≡ 0 = rw nil refl in let some = is.1 in let same = ap length inner in omega arith)
    there false h e = absurd cc

    back : (text ≡ in_apostrophes t) × (t ≢ []) → quoted_of text ≡ Some t
    back h =
        let some = doubled_some t h.1 in
        rw (h.0, enclosed (doubled t) some, between (doubled t)) (undoubled-doubled t)

-- one more character is done
pub one_more : (text word following : List ℕ) (c : ℕ) (rest : Option (List ℕ))
    → rest ≡ option_map (λ (t : List ℕ). c ∷ t) (undoubled following) → undoubled text ≡ option_map (λ (t : List ℕ). word ++ t) rest
    → undoubled text ≡ option_map (λ (t : List ℕ). (word ++ c ∷ []) ++ t) (undoubled following)
one_more text word following c rest first so_far = by (undoubled following) (rw first at so_far)
  where
    by : (o : Option (List ℕ)) → undoubled text ≡ option_map (λ (t : List ℕ). word ++ t) (option_map (λ (t : List ℕ). c ∷ t) o)
        → undoubled text ≡ option_map (λ (t : List ℕ). (word ++ c ∷ []) ++ t) o
    by None e = e
    by (Some t) e = e ∙ ap (λ (u : List ℕ). Some u) (sym (append_assoc word (c ∷ []) t))
