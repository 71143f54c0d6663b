-- What is found first in a list and in its front.
use Rattle.std.proofs.Common.{◌≡◌, ℕ, zero, suc, ◌+◌, ◌<◌, ◌≤◌, Bool, true, false, cond, List, [], ◌∷◌, ◌++◌, length, take, Option, None, Some, refl, sym, ap, ◌∙◌, arith}
use Rattle.std.proofs.lemmas.Bool.{le-ltb, lt-ltb}
use Rattle.std.specs.Cmp.{IsEquivalence}
use Rattle.std.specs.List.{list_any}
use Rattle.std.specs.Map.{lookup}
use Rattle.std.specs.Option.{option_or, is_some}
use Rattle.std.specs.Prelude.{nat_lt, ◌||◌}
use Rattle.rpg_cards.specs.First.{first_at}

-- ---- entries

pub option_or_assoc : {X : Type 0} (a b c : Option X) → option_or (option_or a b) c ≡ option_or a (option_or b c)
option_or_assoc None b c = refl
option_or_assoc (Some x) b c = refl

option_or_none : {X : Type 0} (a : Option X) → option_or a None ≡ a
option_or_none None = refl
option_or_none (Some x) = refl

pub lookup_push : {K V : Type 0} (test : K → Bool) (es : List (K × V)) (k : K) (v : V) → lookup test (es ++ (k, v) ∷ []) ≡ option_or (lookup test es) (cond (test k) (Some v) None)
lookup_push test [] k v = refl
lookup_push test (e ∷ es) k v = by_cases (test e.0) (lookup_push test es k v)
  where
    by_cases : (b : Bool) → lookup test (es ++ (k, v) ∷ []) ≡ option_or (lookup test es) (cond (test k) (Some v) None)
        → cond b (Some e.1) (lookup test (es ++ (k, v) ∷ [])) ≡ option_or (cond b (Some e.1) (lookup test es)) (cond (test k) (Some v) None)
    by_cases true rest = refl
    by_cases false rest = rest

module _ {K V : Type 0} (eq : K → K → Bool) (laws : IsEquivalence eq) where
  lookup_congr : (es : List (K × V)) (q k : K) → eq q k ≡ true → lookup (eq q) es ≡ lookup (eq k) es
  lookup_congr [] q k e = refl
  lookup_congr (x ∷ xs) q k e =
      let here = laws.congr q k x.0 e in
      let rest = lookup_congr xs q k e in
      cc

  -- a key that has a value keeps it
  pub known_stays : (es : List (K × V)) (q k : K) (v : V) → is_some (lookup (eq k) es) ≡ true → lookup (eq q) es ≡ option_or (lookup (eq q) es) (cond (eq q k) (Some v) None)
  known_stays es q k v known = by_cases (eq q k) refl
    where
      found : (o p : Option V) → is_some o ≡ true → p ≡ o → p ≡ option_or p (Some v)
      found None p s e = absurd cc
      found (Some x) p s e = rw e refl

      by_cases : (b : Bool) → eq q k ≡ b → lookup (eq q) es ≡ option_or (lookup (eq q) es) (cond b (Some v) None)
      by_cases true e = found (lookup (eq k) es) (lookup (eq q) es) known (lookup_congr es q k e)
      by_cases false e = sym (option_or_none (lookup (eq q) es))

-- ---- the first of a list

-- what is found, where its place is below n
abbrev pub only_before : {Y : Type 0} → (Y → ℕ) → ℕ → Option Y → Option Y
only_before place n None = None
only_before place n (Some y) = cond (nat_lt (place y) n) (Some y) None

module _ {X Y : Type 0} (test : X → Bool) (made : ℕ → X → Y) where
  pub first_at-append : (i : ℕ) (xs ys : List X) → first_at test made i (xs ++ ys) ≡ option_or (first_at test made i xs) (first_at test made (i + length xs) ys)
  first_at-append i [] ys = ap (λ k. first_at test made k ys) (omega arith)
  first_at-append i (x ∷ xs) ys = by_cases (test x) (first_at-append (i + 1) xs ys) (omega arith)
    where
      by_cases : (b : Bool) → first_at test made (i + 1) (xs ++ ys) ≡ option_or (first_at test made (i + 1) xs) (first_at test made (i + 1 + length xs) ys) → i + 1 + length xs ≡ i + length (x ∷ xs)
          → cond b (Some (made i x)) (first_at test made (i + 1) (xs ++ ys)) ≡ option_or (cond b (Some (made i x)) (first_at test made (i + 1) xs)) (first_at test made (i + length (x ∷ xs)) ys)
      by_cases true rest same = refl
      by_cases false rest same = rest ∙ ap (λ k. option_or (first_at test made (i + 1) xs) (first_at test made k ys)) same

  -- an item passes where one is found
  pub any_first : (i : ℕ) (xs : List X) → list_any test xs ≡ is_some (first_at test made i xs)
  any_first i [] = refl
  any_first i (x ∷ xs) = by_cases (test x) (any_first (i + 1) xs)
    where
      by_cases : (b : Bool) → list_any test xs ≡ is_some (first_at test made (i + 1) xs) → (b || list_any test xs) ≡ is_some (cond b (Some (made i x)) (first_at test made (i + 1) xs))
      by_cases true rest = refl
      by_cases false rest = rest

  -- what is found is known by its place
  module _ (place : Y → ℕ) (kept : (i : ℕ) (x : X) → place (made i x) ≡ i) where
    from_place : (i : ℕ) (xs : List X) (y : Y) → first_at test made i xs ≡ Some y → i ≤ place y
    from_place i [] y e = absurd cc
    from_place i (x ∷ xs) y e = by_cases (test x) e (from_place (i + 1) xs y)
      where
        by_cases : (b : Bool) → cond b (Some (made i x)) (first_at test made (i + 1) xs) ≡ Some y → (first_at test made (i + 1) xs ≡ Some y → i + 1 ≤ place y) → i ≤ place y
        by_cases true e rest = let same : made i x ≡ y = cc in let p = ap place same in let q = kept i x in omega arith
        by_cases false e rest = let p = rest e in omega arith

    nothing_before : (i : ℕ) (xs : List X) → None ≡ only_before place i (first_at test made i xs)
    nothing_before i xs = by_cases (first_at test made i xs) (from_place i xs)
      where
        by_cases : (o : Option Y) → ((y : Y) → o ≡ Some y → i ≤ place y) → None ≡ only_before place i o
        by_cases None low = refl
        by_cases (Some y) low = let p = low y refl in rw (le-ltb (place y) i p) refl

    before_from : (i n : ℕ) (xs : List X) → first_at test made i (take n xs) ≡ only_before place (i + n) (first_at test made i xs)
    before_from i zero xs = nothing_before i xs ∙ ap (λ k. only_before place k (first_at test made i xs)) (omega arith)
    before_from i (suc n) [] = refl
    before_from i (suc n) (x ∷ xs) = by_cases (test x) (before_from (i + 1) n xs)
      where
        by_cases : (b : Bool) → first_at test made (i + 1) (take n xs) ≡ only_before place (i + 1 + n) (first_at test made (i + 1) xs)
            → cond b (Some (made i x)) (first_at test made (i + 1) (take n xs)) ≡ only_before place (i + suc n) (cond b (Some (made i x)) (first_at test made (i + 1) xs))
        by_cases true rest = let p = kept i x in let low : place (made i x) < i + suc n = omega arith in rw (lt-ltb (place (made i x)) (i + suc n) low) refl
        by_cases false rest = rest ∙ ap (λ k. only_before place k (first_at test made (i + 1) xs)) (omega arith)

    pub first_before : (n : ℕ) (xs : List X) → first_at test made 0 (take n xs) ≡ only_before place n (first_at test made 0 xs)
    first_before n xs = let n_is : 0 + n ≡ n = omega arith in before_from 0 n xs ∙ ap (λ k. only_before place k (first_at test made 0 xs)) n_is

  -- ---- entries that find what a list has, and more items after it

  -- what is found of a list, and of more items after it
  pub first_more : (was now : Option Y) (xs items : List X) → was ≡ first_at test made 0 xs → now ≡ option_or was (first_at test made (length xs) items) → now ≡ first_at test made 0 (xs ++ items)
  first_more was now xs items first noted =
      let place : 0 + length xs ≡ length xs = omega arith in
      noted ∙ ap (λ o. option_or o (first_at test made (length xs) items)) first ∙ ap (λ k. option_or (first_at test made 0 xs) (first_at test made k items)) (sym place) ∙ sym (first_at-append 0 xs items)

  pub noted_more : {K : Type 0} (found : K → Bool) (entries more : List (K × Y)) (xs items : List X) → lookup found entries ≡ first_at test made 0 xs
      → lookup found more ≡ option_or (lookup found entries) (first_at test made (length xs) items) → lookup found more ≡ first_at test made 0 (xs ++ items)
  noted_more found entries more xs items was noted = first_more (lookup found entries) (lookup found more) xs items was noted
