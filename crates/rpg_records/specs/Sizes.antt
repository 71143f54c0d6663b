-- How many digits and columns records have as lines.
use Rattle.std.specs.Prelude.{ℕ, ◌+◌, ◌-◌, ◌^◌, max, min, List, [], ◌∷◌, sum_by}
use Rattle.rpg_records.specs.declared.layout.Layout.{Layout}
use Rattle.rpg_records.specs.declared.layout.NumberField.{NumberField}
use Rattle.rpg_records.specs.declared.layout.RecordType.{RecordType}

-- a count stops at the largest number of 64 bits
abbrev pub counted : ℕ → ℕ
counted n = min n (2 ^ 64 - 1)

-- how many bytes a field has
abbrev pub field_size : NumberField → ℕ
field_size f = f.last - f.first + 1

-- how many digits its number has
abbrev pub field_digits : NumberField → ℕ
field_digits f = f.digits

-- how many digits the fields of a type have
abbrev pub digits_after : RecordType → ℕ
digits_after t = counted (sum_by field_digits t.numbers.items)

-- the most digits that a record of one of these types takes
abbrev pub most_digits : List RecordType → ℕ
most_digits [] = 0
most_digits (t ∷ ts) = max (digits_after t) (most_digits ts)

-- how many columns the longest line has
abbrev pub longest_line : Layout → ℕ
longest_line layout = counted (most_digits layout.types.items + layout.length)
