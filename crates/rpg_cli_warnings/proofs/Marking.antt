-- One more mark.
use Rattle.std.proofs.Common.{◌≡◌, ℕ, zero, suc, ◌+◌, ◌<◌, ◌≤◌, Bool, true, false, ◌||◌, eqb, List, length, get_or, replicate, take, refl, sym, ap, ◌∙◌, eq-eqb, eqb-true}
use Rattle.std.proofs.Math.ListN.{set}
use Rattle.std.proofs.lemmas.List.{get_or-set_same, get_or-set_other, take_all}
use Rattle.std.proofs.lemmas.List.Folds.{list_any_more}
use Rattle.std.specs.List.{list_any}
use Rattle.std.specs.Prelude.{[], ◌∷◌, find, is_some, None, Some, cond}

or_true : (b : Bool) → true ≡ (b || true)
or_true true = refl
or_true false = refl

pub or_false : (b : Bool) → b ≡ (b || false)
or_false true = refl
or_false false = refl

-- one after the other, or one of two
pub or_two : (a b c : Bool) → ((a || b) || c) ≡ (a || (b || c))
or_two true b c = refl
or_two false b c = refl

-- one after the other, or any of three
pub or_three : (a b c d : Bool) → (((a || b) || c) || d) ≡ (a || ((b || c) || d))
or_three true b c d = refl
or_three false b c d = refl

pub mark_one : (marks : List Bool) (i n : ℕ) → i < length marks → get_or (set marks i true) n false ≡ (get_or marks n false || eqb i n)
mark_one marks i n within = by (eqb i n) refl
  where
    by : (b : Bool) → eqb i n ≡ b → get_or (set marks i true) n false ≡ (get_or marks n false || b)
    by true is = ap (λ k. get_or (set marks i true) k false) (sym (eqb-true i n is)) ∙ get_or-set_same marks i true false within ∙ or_true (get_or marks n false)
    by false is = get_or-set_other marks i n true false (λ same. let t : eqb i n ≡ true = eq-eqb i n (sym same) in cc) ∙ or_false (get_or marks n false)

-- none that passes is found, and one is
pub none_found : {X : Type 0} (test : X → Bool) (xs : List X) → list_any test xs ≡ false → find test xs ≡ None
none_found test [] is = refl
none_found test (x ∷ xs) is = by (test x) is (none_found test xs)
  where
    by : (b : Bool) → (b || list_any test xs) ≡ false → (list_any test xs ≡ false → find test xs ≡ None) → cond b (Some x) (find test xs) ≡ None
    by true is rest = absurd cc
    by false is rest = rest is

pub one_found : {X : Type 0} (test : X → Bool) (xs : List X) → list_any test xs ≡ true → is_some (find test xs) ≡ true
one_found test [] is = absurd cc
one_found test (x ∷ xs) is = by (test x) is (one_found test xs)
  where
    by : (b : Bool) → (b || list_any test xs) ≡ true → (list_any test xs ≡ true → is_some (find test xs) ≡ true) → is_some (cond b (Some x) (find test xs)) ≡ true
    by true is rest = refl
    by false is rest = rest is

none_marked : (count n : ℕ) → get_or (replicate count false) n false ≡ false
none_marked zero n = refl
none_marked (suc count) zero = refl
none_marked (suc count) (suc n) = none_marked count n

-- no card is read yet
pub nothing_noted : {X : Type 0} (test : X → Bool) (xs : List X) (n : ℕ) → get_or (replicate 256 false) n false ≡ list_any test (take 0 xs)
nothing_noted test xs n = none_marked 256 n

-- one more card is read
pub one_noted : {X : Type 0} (test : X → Bool) (xs : List X) (i : ℕ) (x : X) (old new : Bool) → i < length xs → x ≡ get_or xs i x → new ≡ (old || test x) → old ≡ list_any test (take i xs) → new ≡ list_any test (take (i + 1) xs)
one_noted test xs i x old new below is noted so_far =
    noted ∙ ap (λ b. b || test x) so_far ∙ ap (λ y. list_any test (take i xs) || test y) is ∙ sym (list_any_more test xs i x below)

-- all are
pub all_noted : {X : Type 0} (test : X → Bool) (xs : List X) (i : ℕ) (marked : Bool) → length xs ≤ i → marked ≡ list_any test (take i xs) → marked ≡ list_any test xs
all_noted test xs i marked past so_far = so_far ∙ ap (list_any test) (take_all i xs past)
