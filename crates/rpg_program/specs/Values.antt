-- The value of an entry of a field.
use Rattle.std.specs.Prelude.{ℕ, ℤ, pos, List, [], ◌∷◌, map, Option, None, Some}
use Rattle.std.specs.Ordering.{nat_cmp, ordering_then}
use Rattle.std.specs.declared.cmp.Ordering.{Ordering}
use Rattle.rpg_program.specs.declared.value.FieldValues.{FieldValues}
use Rattle.rpg_program.specs.declared.value.FieldValues.TheVariants.{One, Many}
use Rattle.rpg_program.specs.declared.value.Value as entry
use Rattle.rpg_program.specs.declared.value.Value.TheVariants as kinds

-- a number without its decimal point, or the characters of a text
pub data Value : Type 0 where
  Number : ℤ → Value
  Text : List ℕ → Value

-- the value that an entry holds
abbrev pub held : entry.Value → Value
held (kinds.Number n) = Number n
held (kinds.Text text) = Text text.items

-- the values that the entries of a field hold
abbrev pub entries_held : FieldValues → List Value
entries_held (One value) = held value ∷ []
entries_held (Many values) = map held values.items

-- the number that is held, 0 if there is none
abbrev pub number_of : Option Value → ℤ
number_of None = pos 0
number_of (Some (Number n)) = n
number_of (Some (Text text)) = pos 0

-- the characters that are held, none if there is no text
abbrev pub characters_of : Option Value → List ℕ
characters_of None = []
characters_of (Some (Number n)) = []
characters_of (Some (Text text)) = text

-- entries of fields, in the order of the fields and then of the entries
abbrev pub entry_cmp : {K : Type 0} → (K → K → Ordering) → K × ℕ → K × ℕ → Ordering
entry_cmp R a b = ordering_then (R a.0 b.0) (nat_cmp a.1 b.1)
