-- The values of fields by number and position, and the current entries of tables.
use Rattle.std.specs.Prelude.{◌≡◌, ℕ, List, length, Option, None, Some}
use Rattle.std.specs.FinMap as map
use Rattle.std.specs.Ordering.{nat_cmp}
use Rattle.rpg_program.specs.Values.{Value, Number, Text, entry_cmp}

-- the values of all entries: a field's number, and a position
abbrev pub Values : Type 0
Values = map.FinMap (entry_cmp nat_cmp) Value

-- the current entries of tables
abbrev pub Currents : Type 0
Currents = map.FinMap nat_cmp ℕ

-- there is a number
abbrev pub IsNumber : Option Value → Type 0
IsNumber None = ⊥
IsNumber (Some (Number n)) = Unit {0}
IsNumber (Some (Text text)) = ⊥

-- there is a text
abbrev pub IsText : Option Value → Type 0
IsText None = ⊥
IsText (Some (Number n)) = ⊥
IsText (Some (Text text)) = Unit {0}

-- any text of the same length, written over a text, then is the entry's
abbrev pub WritesText : (List ℕ → Values) → Values → ℕ → ℕ → List ℕ → Type 0
WritesText after before field position text = (w : List ℕ) → length w ≡ length text → after w ≡ map.insert before (field, position) (Text w)
