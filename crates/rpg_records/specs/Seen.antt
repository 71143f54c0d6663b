-- What a layout describes, independent of its lists' memory.
use Rattle.std.specs.Prelude.{ℕ, ◌+◌, max, List, [], ◌∷◌, map, sum_by}
use Rattle.rpg_records.specs.declared.column.Column.{Column}
use Rattle.rpg_records.specs.Sizes.{counted}
use Rattle.rpg_records.specs.declared.layout.Code.{Code}
use Rattle.rpg_records.specs.declared.layout.Layout.{Layout}
use Rattle.rpg_records.specs.declared.layout.NumberField.{NumberField}
use Rattle.rpg_records.specs.declared.layout.NumberForm.{NumberForm}
use Rattle.rpg_records.specs.declared.layout.RecordType.{RecordType}

-- a packed or binary field: its card, its columns, how its bytes stand and how many digits it has
pub record NumberSeen : Type 0 where
  pub card : ℕ
  pub first : ℕ
  pub last : ℕ
  pub form : NumberForm
  pub digits : ℕ

-- a record type: its card, its codes, the contents of each column, its packed and binary fields
pub record TypeSeen : Type 0 where
  pub card : ℕ
  pub codes : List Code
  pub columns : List Column
  pub numbers : List NumberSeen

-- the file's card, how many bytes a record has, and the types in order
pub record LayoutSeen : Type 0 where
  pub card : ℕ
  pub length : ℕ
  pub types : List TypeSeen

-- a field of numbers, as specs see it
abbrev pub number_seen : NumberField → NumberSeen
number_seen f = record { card = f.card; first = f.first; last = f.last; form = f.form; digits = f.digits }

-- a record type, as specs see it
abbrev pub type_seen : RecordType → TypeSeen
type_seen t = record { card = t.card; codes = t.codes.items; columns = t.columns.items; numbers = map number_seen t.numbers.items }

-- a layout, as specs see it
abbrev pub layout_seen : Layout → LayoutSeen
layout_seen layout = record { card = layout.card; length = layout.length; types = map type_seen layout.types.items }

-- how many digits a field has
abbrev pub digits_seen : NumberSeen → ℕ
digits_seen f = f.digits

-- the most digits that a line of one of these types takes
abbrev pub most_seen : List TypeSeen → ℕ
most_seen [] = 0
most_seen (t ∷ ts) = max (counted (sum_by digits_seen t.numbers)) (most_seen ts)

-- how many columns the longest line has
abbrev pub columns_seen : LayoutSeen → ℕ
columns_seen layout = counted (most_seen layout.types + layout.length)
