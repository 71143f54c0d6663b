-- The first cause in a list.
use Rattle.std.specs.Prelude.{ℕ, ◌+◌, Bool, List, [], ◌∷◌, Option, None, Some, if◌then◌else◌}
use Rattle.std.specs.Option.{option_or}

-- a cause, if it is one
abbrev pub cause_if : {C : Type 0} → Bool → C → Option C
cause_if b c = if b then Some c else None

-- the first cause of the elements of a list, which are counted from a number on
abbrev pub first_cause : {X C : Type 0} → (ℕ → X → Option C) → ℕ → List X → Option C
first_cause cause n [] = None
first_cause cause n (x ∷ xs) = option_or (cause n x) (first_cause cause (n + 1) xs)

-- the cause of a row, if there is such a row
abbrev pub cause_of_row : {X C : Type 0} → (X → Option C) → Option X → Option C
cause_of_row cause None = None
cause_of_row cause (Some x) = cause x
