-- What stands in columns, one after the other.
use Rattle.std.proofs.Common.{◌≡◌, ℕ, ◌+◌, ◌<◌, ◌++◌, List, [], ◌∷◌, map, get_or, ap, ◌∙◌, arith}
use Rattle.std.specs.List.{range_with_len}
use Rattle.std.proofs.lemmas.List.FromFn.{get_or-map-range_with_len, map-range_with_len_more}

pub one_more : {X : Type 0} → (f : ℕ → X) (n : ℕ) → map f (range_with_len 1 (n + 1)) ≡ map f (range_with_len 1 n) ++ f (n + 1) ∷ []
one_more f n = map-range_with_len_more f 1 n (n + 1) (omega arith)

-- what a list of columns has at a place
pub at_place : {X : Type 0} → (f : ℕ → X) (xs : List X) (n i : ℕ) (d : X) → xs ≡ map f (range_with_len 1 n) → i < n → get_or xs i d ≡ f (i + 1)
at_place f xs n i d e h = ap (λ l. get_or l i d) e ∙ get_or-map-range_with_len f 1 n i (i + 1) d h (omega arith)
