-- The least value that is noted for each name.
use Rattle.std.specs.Prelude.{◌≡◌, ℕ, List, [], ◌∷◌, ◌++◌, ◌==◌, nat_le, slice_index_or, Option, None, Some, if◌then◌else◌}
use Rattle.rpg_warnings_lines.specs.declared.marks.Mark.{Mark}

-- a value of a name, if there is one
abbrev pub mark_of : ℕ → Option ℕ → List Mark
mark_of value None = []
mark_of value (Some place) = record { place = place; value = value } ∷ []

-- a value of each of these names
abbrev pub marks_of : ℕ → List (Option ℕ) → List Mark
marks_of value [] = []
marks_of value (p ∷ ps) = mark_of value p ++ marks_of value ps

-- the lesser of a name's value and this one, if it is of that name
abbrev pub lowered : ℕ → ℕ → Mark → ℕ
lowered place least m = if m.place == place then (if nat_le least m.value then least else m.value) else least

-- the least value of a name among these, and one more
abbrev pub least_with : ℕ → ℕ → List Mark → ℕ
least_with place least [] = least
least_with place least (m ∷ ms) = least_with place (lowered place least m) ms

-- the least value of a name among these; 65535 if it has none
abbrev pub least : ℕ → List Mark → ℕ
least place ms = least_with place 65535 ms

-- the value at a name's place
abbrev pub least_at : ℕ → List ℕ → ℕ
least_at place values = slice_index_or values place 65535

-- each name has the lesser of its old value and the least of these
abbrev pub Lowers : List Mark → List ℕ → List ℕ → Type 0
Lowers ms old new = (place : ℕ) → least_at place new ≡ least_with place (least_at place old) ms

-- the least value of each name is at its place
abbrev pub AreLeast : List ℕ → List Mark → Type 0
AreLeast values ms = Lowers ms [] values
