-- Sets of indicators, by marks at their numbers.
use Rattle.std.specs.Prelude.{ℕ, List, Bool, false, slice_index_or}

-- the number has a mark
abbrev pub is_marked : ℕ → List Bool → Bool
is_marked n marks = slice_index_or marks n false
