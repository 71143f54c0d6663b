-- Tests over lists that are seen as other lists.
use Rattle.std.proofs.Common.{◌≡◌, ℕ, suc, ◌+◌, Bool, true, false, not, ◌&&◌, ◌||◌, cond, List, [], ◌∷◌, map, length, Option, Some, None, refl, ap, ◌∙◌, arith}
use Rattle.std.specs.Prelude.{nat_lt}
use Rattle.std.specs.List.{list_all, list_any, position, position_or_len}
use borrow.Author.Tests.{ltb-true, ltb-false}
use Rattle.rpg_program.specs.Object.{subroutine_row}
use Rattle.rpg_program.specs.declared.rows.Subroutine.{Subroutine}
use Rattle.rpg_verify_rules.specs.Least.{first_true}
use Rattle.rpg_verify_rules.specs.PlaceRules.{is_off_level}

-- the first row that is broken is the first at which the test holds
abbrev pub found : ℕ → ℕ → ℕ → Option ℕ
found n at len = cond (nat_lt at len) (Some (n + at)) None

shifted : (n at len : ℕ) (a b : Bool) → nat_lt at len ≡ a → nat_lt (1 + at) (suc len) ≡ b → cond a (Some (n + 1 + at)) None ≡ cond b (Some (n + (1 + at))) None
shifted n at len true true s t = ap Some (omega arith)
shifted n at len false false s t = refl
shifted n at len true false s t = absurd (omega (arith, ltb-true, ltb-false))
shifted n at len false true s t = absurd (omega (arith, ltb-true, ltb-false))

broken_at : {X : Type 0} (test : X → Bool) (n : ℕ) (xs : List X) → first_true n (map test xs) ≡ found n (position_or_len test xs) (length xs)
broken_at test n [] = refl
broken_at {X} test n (x ∷ xs) = by_test (test x) (broken_at test (n + 1) xs)
  where
    here : (b : Bool) → nat_lt 0 (suc (length xs)) ≡ b → Some n ≡ cond b (Some (n + 0)) None
    here true t = ap Some (omega arith)
    here false t = absurd (omega (arith, ltb-false))

    by_test : (b : Bool) → first_true (n + 1) (map test xs) ≡ found (n + 1) (position_or_len test xs) (length xs) → cond b (Some n) (first_true (n + 1) (map test xs)) ≡ found n (cond (not b) (1 + position_or_len test xs) 0) (suc (length xs))
    by_test true h = here _ refl
    by_test false h = h ∙ shifted n (position_or_len test xs) (length xs) _ _ refl refl

pub position_is : {X : Type 0} (test : X → Bool) (xs : List X) → first_true 0 (map test xs) ≡ position test xs
position_is test xs = broken_at test 0 xs ∙ at_zero (position_or_len test xs) (length xs) _ refl
  where
    at_zero : (at len : ℕ) (b : Bool) → nat_lt at len ≡ b → cond b (Some (0 + at)) None ≡ cond b (Some at) None
    at_zero at len true t = ap Some (omega arith)
    at_zero at len false t = refl

map-map : {X Y Z : Type 0} (test : Y → Z) (f : X → Y) (xs : List X) → map test (map f xs) ≡ map (λ x. test (f x)) xs
map-map test f [] = refl
map-map test f (x ∷ xs) = ap (λ ys. test (f x) ∷ ys) (map-map test f xs)

-- rows that are seen as others
pub position_seen : {X Y : Type 0} (test : Y → Bool) (f : X → Y) (xs : List X) → first_true 0 (map test (map f xs)) ≡ position (λ x. test (f x)) xs
position_seen test f xs = ap (first_true 0) (map-map test f xs) ∙ position_is (λ x. test (f x)) xs

-- not all pass exactly if one doesn't
pub not_all : {X : Type 0} (test : X → Bool) (xs : List X) → not (list_all test xs) ≡ list_any (λ x. not (test x)) xs
not_all test [] = refl
not_all test (x ∷ xs) = by_test (test x) (not_all test xs)
  where
    by_test : (b : Bool) → not (list_all test xs) ≡ list_any (λ x. not (test x)) xs → not (b && list_all test xs) ≡ (not b || list_any (λ x. not (test x)) xs)
    by_test true h = h
    by_test false h = refl

-- levels of subroutines
pub levels : (xs : List Subroutine) → first_true 0 (map is_off_level (map subroutine_row xs)) ≡ position (λ s. is_off_level (subroutine_row s)) xs
levels xs = position_seen is_off_level subroutine_row xs
