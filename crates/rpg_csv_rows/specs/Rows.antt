-- The rows of a text.
use Rattle.std.specs.Prelude.{ℕ, ◌==◌, ◌&&◌, ◌||◌, not, Bool, false, if◌then◌else◌, List, [], ◌∷◌}
use Rattle.std.specs.Io.BufRead.{ends_with_byte, strip_last}
use Rattle.rpg_csv_rows.specs.Cells.{is_open_after}

-- the bytes of the first row: through the first line feed outside quotation marks, or all, given whether a mark is inside before
abbrev pub row_through : Bool → List ℕ → List ℕ
row_through inside [] = []
row_through inside (c ∷ cs) = if c == 10 && not inside then c ∷ [] else c ∷ row_through (is_open_after inside c) cs

-- there is such a line feed
abbrev pub ends_row : Bool → List ℕ → Bool
ends_row inside [] = false
ends_row inside (c ∷ cs) = (c == 10 && not inside) || ends_row (is_open_after inside c) cs

-- a quotation mark is inside after these bytes
abbrev pub is_open_through : Bool → List ℕ → Bool
is_open_through inside [] = inside
is_open_through inside (c ∷ cs) = is_open_through (is_open_after inside c) cs

-- a row without its line feed, and the carriage return before that
abbrev pub row_text : List ℕ → List ℕ
row_text bytes = if ends_with_byte 10 bytes then strip_last 13 (strip_last 10 bytes) else bytes
