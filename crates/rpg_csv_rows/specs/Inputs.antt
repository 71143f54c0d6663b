-- The rest of an input.
use Rattle.std.specs.Prelude.{◌≡◌, ℕ, false, List, drop, length, slice_range, take, Option, Some, IfSome}
use Rattle.std.specs.Io.KnownBytes.{prepend_known}
use Rattle.rpg_files.specs.Counting.{device_of}
use Rattle.rpg_files.specs.declared.counting.Counted.{Counted}
use Rattle.rpg_csv_rows.specs.Rows.{row_through}
use Rattle.rpg_csv_rows.specs.declared.input.RowInput.{RowInput}

-- the bytes that were read but not yet returned
abbrev pub left_in : RowInput → List ℕ
left_in input = slice_range input.buf.items input.start input.end

-- those, and then what the reader has left, if its bytes are known
abbrev pub remaining_in : {R : Type 0} → (R → Option (List ℕ)) → Counted R → RowInput → Option (List ℕ)
remaining_in remaining reader input = prepend_known (left_in input) (remaining (device_of reader))

-- of known bytes, these were returned: the first row of as many bytes as there is room for
abbrev pub GivesRow : ℕ → Option (List ℕ) → Option (List ℕ) → List ℕ → Type 0
GivesRow most old new bytes = IfSome old (λ input. (bytes ≡ row_through false (take most input)) × (new ≡ Some (drop (length bytes) input)))
