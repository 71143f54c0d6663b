-- What a record has in common with the previous one: control fields with the last bytes of their levels.
use Rattle.std.specs.Prelude.{ℕ, ◌-◌, Bool, true, false, not, ◌&&◌, nat_le, List, [], ◌∷◌, slice_index_or, Option, None, Some}
use Rattle.rpg_cycle_records.specs.Levels.{compared, has_level, same_bytes}
use Rattle.rpg_program.specs.declared.input.ControlField.{ControlField}

-- a level had these bytes last
abbrev pub had : Option (List ℕ) → List ℕ → Bool
had None bytes = false
had (Some last) bytes = same_bytes last bytes

-- the field's bytes are the last ones of its level
abbrev pub is_last : List (Option (List ℕ)) → List ℕ → ControlField → Bool
is_last last text f = nat_le 1 f.level && had (slice_index_or last (f.level - 1) None) (compared text f)

-- each field is the only one of its level, and its bytes are the last ones
abbrev pub are_last : List (Option (List ℕ)) → List ℕ → List ControlField → Bool
are_last last text [] = true
are_last last text (f ∷ fs) = not (has_level fs f.level) && (is_last last text f && are_last last text fs)
