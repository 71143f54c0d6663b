-- Bytes that begin with others.
use Rattle.std.proofs.Common.{◌≡◌, ℕ, Bool, true, false, eqb, List, [], ◌∷◌, ◌++◌, Option, None, Some, refl}
use Rattle.rpg_cycle_records.specs.Fronts.{if_first, rest_following}
use Rattle.rpg_cycle_records.specs.Levels.{same_bytes}

abbrev pub same_rest : Option (List ℕ) → List ℕ → Bool
same_rest None more = false
same_rest (Some rest) more = same_bytes rest more

pub same_after : (front bytes more : List ℕ) → same_bytes bytes (front ++ more) ≡ same_rest (rest_following front bytes) more
same_after [] bytes more = refl
same_after (x ∷ xs) [] more = refl
same_after (x ∷ xs) (y ∷ ys) more = step (eqb y x) xs ys more (same_after xs ys more)
  where
    step : (b : Bool) (xs ys more : List ℕ) → same_bytes ys (xs ++ more) ≡ same_rest (rest_following xs ys) more →
        (Rattle.std.specs.Prelude.◌&&◌ b (same_bytes ys (xs ++ more))) ≡ same_rest (if_first b (rest_following xs ys)) more
    step true xs ys more h = h
    step false xs ys more h = refl
