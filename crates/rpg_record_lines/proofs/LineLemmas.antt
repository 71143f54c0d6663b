-- The first place where a test holds.
use Rattle.std.proofs.Common.{◌≡◌, ℕ, suc, ◌+◌, ◌<◌, ◌==◌, Bool, true, false, not, ◌||◌, cond, nat_lt, List, [], ◌∷◌, ◌++◌, length, take, refl, sym, ap, ◌∙◌, arith, position, None, Some, Ok}
use Rattle.std.proofs.Math.Seq.{take-append_seam}
use Rattle.std.proofs.lemmas.Bool.{le-ltb, lt-ltb, ltb-false, ltb-true}
use Rattle.std.specs.List.{list_any, prefix_len}
use Rattle.rpg_record_lines.specs.Lines.{unless_bad}

one_more : (p n : ℕ) → nat_lt (1 + p) (suc n) ≡ nat_lt p n
one_more p n = at (nat_lt p n) refl
  where
    at : (b : Bool) → nat_lt p n ≡ b → nat_lt (1 + p) (suc n) ≡ b
    at true e = lt-ltb (1 + p) (suc n) (omega (arith, ltb-true p n e))
    at false e = le-ltb (1 + p) (suc n) (omega (arith, ltb-false p n e))

-- a test holds somewhere if fewer than all fail before
pub any_before : (test : ℕ → Bool) (xs : List ℕ) → list_any test xs ≡ nat_lt (prefix_len (λ b. not (test b)) xs) (length xs)
any_before test [] = refl
any_before test (x ∷ xs) = at (test x) (any_before test xs)
  where
    at : (b : Bool) → list_any test xs ≡ nat_lt (prefix_len (λ b. not (test b)) xs) (length xs)
        → (b || list_any test xs) ≡ nat_lt (cond (not b) (1 + prefix_len (λ b. not (test b)) xs) 0) (suc (length xs))
    at true e = sym (lt-ltb 0 (suc (length xs)) (omega arith))
    at false e = e ∙ sym (one_more (prefix_len (λ b. not (test b)) xs) (length xs))

position_none : (test : ℕ → Bool) (xs : List ℕ) → list_any test xs ≡ false → position test xs ≡ None
position_none test xs e = ap (λ (b : Bool). cond b (Some (prefix_len (λ b. not (test b)) xs)) None) (sym (any_before test xs) ∙ e)

-- no element passes
pub none_passes : (test : ℕ → Bool) (xs : List ℕ) → position test xs ≡ None → list_any test xs ≡ false
none_passes test xs e = at (nat_lt (prefix_len (λ b. not (test b)) xs) (length xs)) refl e
  where
    at : (b : Bool) → nat_lt (prefix_len (λ b. not (test b)) xs) (length xs) ≡ b → cond b (Some (prefix_len (λ b. not (test b)) xs)) None ≡ None → list_any test xs ≡ false
    at true t h = cc
    at false t h = any_before test xs ∙ t

is_false : (b : Bool) → not b ≡ true → b ≡ false
is_false true e = cc
is_false false e = refl

-- no column lacks its character
pub all_characters : (bytes columns : List ℕ) → not (list_any (λ c. c == 0) columns) ≡ true → unless_bad bytes columns (position (λ c. c == 0) columns) ≡ Ok columns
all_characters bytes columns h = ap (unless_bad bytes columns) (position_none (λ c. c == 0) columns (is_false (list_any (λ c. c == 0) columns) h))

pub place_within : (test : ℕ → Bool) (xs : List ℕ) (i : ℕ) → position test xs ≡ Some i → i < length xs
place_within test xs i e = at (nat_lt (prefix_len (λ b. not (test b)) xs) (length xs)) refl e
  where
    at : (b : Bool) → nat_lt (prefix_len (λ b. not (test b)) xs) (length xs) ≡ b → cond b (Some (prefix_len (λ b. not (test b)) xs)) None ≡ Some i → i < length xs
    at true t h = let same : prefix_len (λ b. not (test b)) xs ≡ i = cc in omega (arith, same, ltb-true (prefix_len (λ b. not (test b)) xs) (length xs) t)
    at false t h = cc

pub whole_text : (n : ℕ) (text more : List ℕ) → length text ≡ n → take n (text ++ more) ≡ text
whole_text n text more e = ap (λ (k : ℕ). take k (text ++ more)) (sym e) ∙ take-append_seam text more
