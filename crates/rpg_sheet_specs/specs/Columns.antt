-- What the columns of a card hold: one line for each range of columns.
use Rattle.std.specs.Prelude.{◌≡◌, ◌≤◌, ◌<◌, length, slice_index, ℕ, ◌+◌, ◌-◌, List, [], ◌∷◌, ◌++◌, Bool, Option, None, Some, Result, Ok, Err, slice_range, position, if◌then◌else◌, ◌==◌, not}
use Rattle.std.specs.Option.{ok_or}
use Rattle.rpg_sheet_specs.specs.declared.column.ColumnFault.{ColumnFault}

-- the columns from a to b of a card
abbrev pub cols : ℕ → ℕ → List ℕ → List ℕ
cols a b card = slice_range card (a - 1) b

-- a bad value in the columns from a to b
abbrev pub column_fault : ℕ → ℕ → ColumnFault
column_fault a b = record { column = a; last = b }

-- a bad value in this many columns, from the first on
abbrev pub column_fault_from : ℕ → ℕ → ColumnFault
column_fault_from first width = column_fault first (first + (width - 1))

-- k is among the columns, and none of them is less
pub record IsLeastColumn (ks : List ℕ) (k : ℕ) : Type 0 where
  pub rest : List ℕ
  pub among : ks ≡ k ∷ rest
  pub none_below : (i : ℕ) → i < length ks → k ≤ slice_index ks i

-- Some columns of a card, and what they mean together.
pub record Columns (X : Type 0) : Type 1 where
  -- what a card's columns mean, or the fault of the first line whose columns mean nothing
  pub reading : List ℕ → Result X ColumnFault
  -- the first columns of all values of a card that are bad
  pub bad : List ℕ → List ℕ

-- no columns
unfoldable pub values : {X : Type 0} → X → Columns X
values x = record { reading = λ card. Ok x; bad = λ card. [] }

-- the column, if its range has no value
abbrev pub bad_if_none : {X : Type 0} → ℕ → Option X → List ℕ
bad_if_none a None = a ∷ []
bad_if_none a (Some x) = []

-- Columns a to b, if a rule takes their text to its meaning. The rule may look at the whole card too.
unfoldable pub at_with : {X : Type 0} → ℕ → ℕ → (List ℕ → List ℕ → Option X) → Columns X
at_with a b rule = record {
  reading = λ card. ok_or (rule card (cols a b card)) (column_fault a b);
  bad = λ card. bad_if_none a (rule card (cols a b card));
}

-- the text of columns a to b, by a rule
abbrev pub at : {X : Type 0} → ℕ → ℕ → (List ℕ → Option X) → Columns X
at a b rule = at_with a b (λ card text. rule text)

-- Columns a to b, which must be blank, each a value of its own.
abbrev pub is_filled : ℕ → Bool
is_filled c = not (c == 32)

-- the columns that aren't blank, counted from the first
abbrev pub filled_from : ℕ → List ℕ → List ℕ
filled_from a [] = []
filled_from a (c ∷ cs) = if is_filled c then a ∷ filled_from (a + 1) cs else filled_from (a + 1) cs

-- a fault at one column, if there is one
abbrev pub fault_if_some : ℕ → Option ℕ → Result (Unit {0}) ColumnFault
fault_if_some a None = Ok tt
fault_if_some a (Some i) = Err (column_fault (a + i) (a + i))

-- columns a to b are blank
unfoldable pub blank : ℕ → ℕ → Columns (Unit {0})
blank a b = record {
  reading = λ card. fault_if_some a (position is_filled (cols a b card));
  bad = λ card. filled_from a (cols a b card);
}

-- one after another
abbrev pub mapped : {X Y : Type 0} → (X → Y) → Result X ColumnFault → Result Y ColumnFault
mapped f (Ok x) = Ok (f x)
mapped f (Err e) = Err e

-- one more argument of a function, or the first fault of both
abbrev pub applied : {X Y : Type 0} → Result (X → Y) ColumnFault → Result X ColumnFault → Result Y ColumnFault
applied (Ok f) r = mapped f r
applied (Err e) r = Err e

-- the first value, or the first fault of both
abbrev pub and_only : {X Y : Type 0} → Result X ColumnFault → Result Y ColumnFault → Result X ColumnFault
and_only (Ok x) r = mapped (λ y. x) r
and_only (Err e) r = Err e

-- one more value; bad columns are those of both
unfoldable pub also : {X Y : Type 0} → Columns (X → Y) → Columns X → Columns Y
also f g = record {
  reading = λ card. applied (f.reading card) (g.reading card);
  bad = λ card. f.bad card ++ g.bad card;
}

-- the second part only has to be valid
unfoldable pub past : {X Y : Type 0} → Columns X → Columns Y → Columns X
past f g = record {
  reading = λ card. and_only (f.reading card) (g.reading card);
  bad = λ card. f.bad card ++ g.bad card;
}

infixl 7 ◌⊛◌
infixl 7 ◌⊘◌
-- one after the other: the function takes the value
abbrev pub ◌⊛◌ : {X Y : Type 0} → Columns (X → Y) → Columns X → Columns Y
f ⊛ g = also f g

-- one after the other: the second has no value of its own
abbrev pub ◌⊘◌ : {X Y : Type 0} → Columns X → Columns Y → Columns X
f ⊘ g = past f g

-- the first table on the cards that pass a test, otherwise the second
unfoldable pub where_card : {X : Type 0} → (List ℕ → Bool) → Columns X → Columns X → Columns X
where_card test first second = record {
  reading = λ card. if test card then first.reading card else second.reading card;
  bad = λ card. if test card then first.bad card else second.bad card;
}
