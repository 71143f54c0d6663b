-- Cells and rows as they are written.
use Rattle.std.specs.Prelude.{◌≡◌, ℕ, ◌==◌, ◌||◌, ◌&&◌, not, Bool, false, if◌then◌else◌, List, [], ◌∷◌, ◌++◌, length, map, None}
use Rattle.std.specs.List.{list_any}
use Rattle.rpg_csv_rows.specs.Cells.{cell_fault, content_of, raw_cells}
use Rattle.rpg_csv_rows.specs.declared.quoting.Quoting.{Quoting}

-- a byte for which a cell is quoted
abbrev pub is_special : ℕ → ℕ → Bool
is_special d c = c == d || (c == 34 || (c == 13 || c == 10))

-- each quotation mark twice
abbrev pub doubled : List ℕ → List ℕ
doubled [] = []
doubled (c ∷ cs) = if c == 34 then c ∷ (34 ∷ doubled cs) else c ∷ doubled cs

-- in quotation marks
abbrev pub quoted : List ℕ → List ℕ
quoted cell = 34 ∷ (doubled cell ++ 34 ∷ [])

-- a cell, in quotation marks where it needs them
abbrev pub written_cell : Quoting → List ℕ → List ℕ
written_cell q cell =
    if not (list_any (is_special q.delimiter) cell) && not (q.quotes_empty && length cell == 0) then cell else quoted cell

-- cells with delimiters between them
abbrev pub joined : ℕ → List ℕ → List (List ℕ) → List ℕ
joined d first [] = first
joined d first (cell ∷ cells) = first ++ d ∷ joined d cell cells

-- A row of written cells has these cells, each of them is strict, and its content is what was written.
abbrev pub CellsAreReadBack : Type 0
CellsAreReadBack =
    (q : Quoting) → (q.delimiter == 34) ≡ false → (first : List ℕ) (cells : List (List ℕ))
    → (raw_cells q.delimiter false (joined q.delimiter (written_cell q first) (map (written_cell q) cells)) ≡ written_cell q first ∷ map (written_cell q) cells)
    × (cell_fault (written_cell q first) ≡ None) × (content_of (written_cell q first) ≡ first)
