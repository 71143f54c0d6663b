-- Where a test of rows says that something breaks a rule, there is a cause.
use Rattle.std.proofs.Common.{◌≡◌, ℕ, zero, suc, ◌+◌, Bool, true, false, not, ◌&&◌, ◌||◌, List, [], ◌∷◌, map, Option, Some, None, slice_get, refl, sym}
use Rattle.std.proofs.lemmas.Bool.{false≢true}
use Rattle.std.specs.List.{list_all, list_any}
use Rattle.std.specs.Option.{is_some, option_map, option_or, unwrap_or}
use Rattle.rpg_refusal_causes.specs.First.{cause_if, cause_of_row, first_cause}

pub some_if : {C : Type 0} (b : Bool) (c : C) → b ≡ true → is_some (cause_if b c) ≡ true
some_if true c h = refl
some_if false c h = absurd (false≢true h)

pub some_unless : {C : Type 0} (b : Bool) (c : C) → b ≡ false → is_some (cause_if (not b) c) ≡ true
some_unless true c h = absurd (false≢true (sym h))
some_unless false c h = refl

pub some_front : {C : Type 0} (a b : Option C) → is_some a ≡ true → is_some (option_or a b) ≡ true
some_front None b h = absurd (false≢true h)
some_front (Some c) b h = refl

pub some_later : {C : Type 0} (a b : Option C) → is_some b ≡ true → is_some (option_or a b) ≡ true
some_later None b h = h
some_later (Some c) b h = refl

-- one of two tests doesn't pass
pub one_of_two : {C : Type 0} (a b : Bool) (x y : Option C) → (not a ≡ true → is_some x ≡ true) → (not b ≡ true → is_some y ≡ true) → not (a && b) ≡ true → is_some (option_or x y) ≡ true
one_of_two false b x y f g h = some_front x y (f refl)
one_of_two true b x y f g h = some_later x y (g h)

pub some_mapped : {X C : Type 0} (f : X → C) (o : Option X) → is_some o ≡ true → is_some (option_map f o) ≡ true
some_mapped f None h = absurd (false≢true h)
some_mapped f (Some x) h = refl

module _ {X C : Type 0} (cause : ℕ → X → Option C) (test : X → Bool) where
  -- one of a list passes
  pub some_any : ((n : ℕ) (x : X) → test x ≡ true → is_some (cause n x) ≡ true) → (n : ℕ) (xs : List X) → list_any test xs ≡ true → is_some (first_cause cause n xs) ≡ true
  some_any h n [] e = absurd (false≢true e)
  some_any h n (x ∷ xs) e = by_test (test x) refl e (some_any h (n + 1) xs)
    where
      by_test : (b : Bool) → test x ≡ b → (b || list_any test xs) ≡ true → (list_any test xs ≡ true → is_some (first_cause cause (n + 1) xs) ≡ true) →
          is_some (option_or (cause n x) (first_cause cause (n + 1) xs)) ≡ true
      by_test true t f later = some_front (cause n x) (first_cause cause (n + 1) xs) (h n x t)
      by_test false t f later = some_later (cause n x) (first_cause cause (n + 1) xs) (later f)

  -- not all of a list pass
  pub some_not_all : ((n : ℕ) (x : X) → test x ≡ false → is_some (cause n x) ≡ true) → (n : ℕ) (xs : List X) → not (list_all test xs) ≡ true → is_some (first_cause cause n xs) ≡ true
  some_not_all h n [] e = absurd (false≢true e)
  some_not_all h n (x ∷ xs) e = by_test (test x) refl e (some_not_all h (n + 1) xs)
    where
      by_test : (b : Bool) → test x ≡ b → not (b && list_all test xs) ≡ true → (not (list_all test xs) ≡ true → is_some (first_cause cause (n + 1) xs) ≡ true) →
          is_some (option_or (cause n x) (first_cause cause (n + 1) xs)) ≡ true
      by_test true t f later = some_later (cause n x) (first_cause cause (n + 1) xs) (later f)
      by_test false t f later = some_front (cause n x) (first_cause cause (n + 1) xs) (h n x t)

-- a row that passes
pub some_at : {X C : Type 0} (cause : X → Option C) (test : X → Bool) → ((x : X) → test x ≡ true → is_some (cause x) ≡ true) →
    (xs : List X) (k : ℕ) → unwrap_or (slice_get (map test xs) k) false ≡ true → is_some (cause_of_row cause (slice_get xs k)) ≡ true
some_at cause test h [] k e = absurd (false≢true e)
some_at cause test h (x ∷ xs) zero e = h x e
some_at cause test h (x ∷ xs) (suc k) e = some_at cause test h xs k e
