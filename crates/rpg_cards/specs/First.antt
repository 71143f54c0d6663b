-- The first item of a list that passes a test.
use Rattle.std.specs.Prelude.{ℕ, ◌+◌, Bool, List, [], ◌∷◌, if◌then◌else◌, Option, None, Some}

-- a function of the first item that passes a test and of its place; the first item of the list is at place i
abbrev pub first_at : {X Y : Type 0} → (X → Bool) → (ℕ → X → Y) → ℕ → List X → Option Y
first_at test made i [] = None
first_at test made i (x ∷ xs) = if test x then Some (made i x) else first_at test made (i + 1) xs
