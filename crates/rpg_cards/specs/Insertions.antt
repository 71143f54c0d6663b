-- Items without duplicates, each where it comes first.
use Rattle.std.specs.Prelude.{Bool, List, [], ◌∷◌, ◌++◌, fold, if◌then◌else◌}
use Rattle.std.specs.List.{list_any}

module _ {X : Type 0} (eq : X → X → Bool) where
  -- the items followed by one more, unless it is among them
  abbrev pub insert_key : List X → X → List X
  insert_key known x = if list_any (eq x) known then known else known ++ x ∷ []

  -- the items followed by others, each in turn
  abbrev pub insert_all : List X → List X → List X
  insert_all known items = fold insert_key known items
