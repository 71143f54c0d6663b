-- Values in the order of the entries.
use Rattle.std.specs.Prelude.{◌≡◌, ℕ, zero, suc, ◌+◌, List, [], ◌∷◌, ◌++◌, zip, slice_get, Some}
use Rattle.std.specs.FinMap as map
use Rattle.rpg_program.specs.Values.{Value}
use Rattle.rpg_program.specs.declared.form.FieldForm.{FieldForm}
use Rattle.rpg_store.specs.Store.{Values}

-- this many positions of a field, from that one on
abbrev pub positions_from : ℕ → ℕ → ℕ → List (ℕ × ℕ)
positions_from field position zero = []
positions_from field position (suc n) = (field, position) ∷ positions_from field (position + 1) n

-- all entries, in the order of fields and positions; fields are numbered from here on
abbrev pub entries_from : ℕ → List FieldForm → List (ℕ × ℕ)
entries_from field [] = []
entries_from field (f ∷ fs) = positions_from field 1 f.entries ++ entries_from (field + 1) fs

-- the entry exists, at that place among all entries
abbrev pub IsEntryAt : List FieldForm → ℕ → ℕ × ℕ → Type 0
IsEntryAt forms n entry = slice_get (entries_from 1 forms) n ≡ Some entry

-- the entry exists
abbrev pub IsEntry : List FieldForm → ℕ × ℕ → Type 0
IsEntry forms entry = (n : ℕ) × IsEntryAt forms n entry

-- values in the order of the entries, each at its entry
unfoldable pub by_entry : List FieldForm → List Value → Values
by_entry forms vs = map.from_entries (zip (entries_from 1 forms) vs)
