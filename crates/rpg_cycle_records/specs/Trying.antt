-- What the code's result means for the search for a type.
use Rattle.std.specs.Prelude.{ℕ, Option, None, Some}
use Rattle.rpg_cycle_records.specs.Identifying.{Trial, IsOf, IsOfNone}

-- a record of no type, or of one
abbrev pub trial_of : Option ℕ → Trial
trial_of None = IsOfNone
trial_of (Some t) = IsOf t
