-- How rows are built from formats.
use Rattle.std.specs.Prelude.{◌≡◌, ℕ, List, [], length, Bool, true, false, Ok}
use Rattle.rpg_object_format.specs.declared.fault.Code.TheVariants.{Unused}
use Rattle.rpg_object_format.specs.Format.{Format, ◌>>=◌, made, pair, row, table}
use Rattle.rpg_object_format.specs.Numbers.{is_any_number, byte_where, count, only_byte, only_number}

-- ---- single numbers

-- any byte
abbrev pub any_byte : Format ℕ
any_byte = byte_where is_any_number

-- 0 for an unused byte
abbrev pub unused_byte : Format (Unit {0})
unused_byte = only_byte 0 Unused

-- 0 for an unused number
abbrev pub unused_number : Format (Unit {0})
unused_number = only_number 0 Unused

-- no number at all
unfoldable pub no_number : Format (Unit {0})
no_number = record { spelling = λ u. []; Holds = λ u. Unit {0}; reading = λ bytes. Ok (tt, bytes) }

-- ---- rows

-- the same as a row, only of values with this property
unfoldable pub row_where : {A X : Type 0} → (X → Type 0) → (A → X) → (X → A) → Format A → Format X
row_where Is make parts f = record {
  spelling = λ x. f.spelling (parts x);
  Holds = λ x. Is x × f.Holds (parts x);
  reading = λ bytes. f.reading bytes >>= made make;
}

-- a single value, encoded as fixed numbers
abbrev pub always : {X : Type 0} → X → Format (Unit {0}) → Format X
always x numbers = row_where (λ y. y ≡ x) (λ u. x) (λ y. tt) numbers

-- a format if it is used, otherwise the value for an unused one, as these numbers
abbrev pub where_used : {X : Type 0} → Bool → Format X → X → Format (Unit {0}) → Format X
where_used true f nothing zeros = f
where_used false f nothing zeros = always nothing zeros

-- a count, and that many rows
abbrev pub counted_rows : {X : Type 0} → ℕ → Format X → Format (List X)
counted_rows limit f = row (λ p. p.1) (λ xs. (length xs, xs)) (pair (count limit) (λ n. table n f))
