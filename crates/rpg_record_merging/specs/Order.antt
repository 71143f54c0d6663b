-- Which of the records that wait in several files is next.
use Rattle.std.specs.Prelude.{◌≡◌, ℕ, ◌<◌, Bool, true, false, if◌then◌else◌, List, [], ◌∷◌, ◌++◌, slice_index_or, take, Option, Some, None}
use Rattle.std.specs.Ordering.{is_gt}
use Rattle.rpg_csv_rows.specs.Rows.{row_text}
use Rattle.rpg_decimal_words.specs.Order.{text_cmp}
use Rattle.rpg_record_merging.specs.declared.head.Head.{Head}

-- the match value of a record; none if its type has no match fields
abbrev pub value_of : Head → Option (List ℕ)
value_of h = if h.has_value then Some h.value.items else None

-- what waits in a file: nothing after its end, or a record, by its match value
abbrev pub waiting_of : Head → Option (Option (List ℕ))
waiting_of h = if h.is_there then Some (value_of h) else None

-- A record is before another one if its value is less, or in descending order greater. One without a value is before all that have one.
abbrev pub is_before : (is_descending : Bool) → Option (List ℕ) → Option (List ℕ) → Bool
is_before is_descending None None = false
is_before is_descending None (Some w) = true
is_before is_descending (Some v) None = false
is_before is_descending (Some v) (Some w) = is_gt (if is_descending then text_cmp v w else text_cmp w v)

-- Nothing is next if nothing waits in these files. Otherwise a record that waits is, at the place of its file: no other is before it, and it is before all
-- that wait in earlier files.
abbrev pub IsNext : Bool → List (Option (Option (List ℕ))) → Option ℕ → Type 0
IsNext is_descending files None = (k : ℕ) → slice_index_or files k None ≡ None
IsNext is_descending files (Some place) =
    (v : Option (List ℕ)) × (slice_index_or files place None ≡ Some v) × ((k : ℕ) (w : Option (List ℕ)) → slice_index_or files k None ≡ Some w
    → (is_before is_descending w v ≡ false) × (k < place → is_before is_descending v w ≡ true))

-- the line of a record: its letter, its columns, and a line feed
abbrev pub line_of : ℕ → Head → List ℕ
line_of letter h = letter ∷ (take 1048576 (row_text h.line.items) ++ (10 ∷ []))
