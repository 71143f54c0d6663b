-- The cells of a row.
use Rattle.std.specs.Prelude.{ℕ, ◌+◌, ◌-◌, ◌==◌, ◌&&◌, not, nat_lt, Bool, false, if◌then◌else◌, List, [], ◌∷◌, length, slice_range, take, Option, Some, None, Result, Ok, Err}
use Rattle.rpg_csv_rows.specs.declared.cells.CellFault.{CellFault}
use Rattle.rpg_csv_rows.specs.declared.cells.CellFault.TheVariants as faults
use Rattle.rpg_csv_rows.specs.declared.cells.CellPlace.{CellPlace}
use Rattle.rpg_csv_rows.specs.declared.cells.RowFault.{RowFault}

-- a quotation mark opens or closes
abbrev pub is_open_after : Bool → ℕ → Bool
is_open_after inside c = if c == 34 then not inside else inside

-- where the first delimiter outside quotation marks is, given whether one is inside before, or the length
abbrev pub raw_end : ℕ → Bool → List ℕ → ℕ
raw_end d inside [] = 0
raw_end d inside (c ∷ cs) = if c == d && not inside then 0 else 1 + raw_end d (is_open_after inside c) cs

-- one more byte before the first cell
abbrev pub onto_cell : ℕ → List (List ℕ) → List (List ℕ)
onto_cell c [] = (c ∷ []) ∷ []
onto_cell c (raw ∷ raws) = (c ∷ raw) ∷ raws

-- the cells of a row as they stand in it: delimiters outside quotation marks separate them
abbrev pub raw_cells : ℕ → Bool → List ℕ → List (List ℕ)
raw_cells d inside [] = [] ∷ []
raw_cells d inside (c ∷ cs) = if c == d && not inside then [] ∷ raw_cells d false cs else onto_cell c (raw_cells d (is_open_after inside c) cs)

-- ---- strict cells

-- after the opening quotation mark, given whether the last one may have closed the cell: two in a row are one of its content
abbrev pub quoted_fault : Bool → List ℕ → Option CellFault
quoted_fault closed [] = if closed then None else Some faults.OpenMark
quoted_fault closed (c ∷ cs) = if c == 34 then quoted_fault (not closed) cs else (if closed then Some faults.AfterMark else quoted_fault closed cs)

-- a cell without quotation marks
abbrev pub plain_fault : List ℕ → Option CellFault
plain_fault [] = None
plain_fault (c ∷ cs) = if c == 34 then Some faults.StrayMark else (if c == 13 then Some faults.LoneReturn else plain_fault cs)

-- what is wrong with a cell
abbrev pub cell_fault : List ℕ → Option CellFault
cell_fault [] = None
cell_fault (c ∷ cs) = if c == 34 then quoted_fault false cs else plain_fault (c ∷ cs)

-- how many cells there are after this many, or the first bad one
abbrev pub checked_after : ℕ → Option CellFault → Result ℕ RowFault → Result ℕ RowFault
checked_after n (Some fault) next = Err (record { cell = n; fault = fault })
checked_after n None next = next

abbrev pub checked_row : ℕ → List (List ℕ) → Result ℕ RowFault
checked_row n [] = Ok n
checked_row n (raw ∷ raws) = checked_after (n + 1) (cell_fault raw) (checked_row (n + 1) raws)

-- ---- their contents

-- one quotation mark for each two, given whether the last byte was the first of two
abbrev pub undoubled : Bool → List ℕ → List ℕ
undoubled second [] = []
undoubled second (c ∷ cs) = if second && c == 34 then undoubled false cs else c ∷ undoubled (c == 34) cs

-- what the quotation marks of a cell enclose, or the cell itself
abbrev pub content_of : List ℕ → List ℕ
content_of [] = []
content_of (c ∷ cs) = if c == 34 && nat_lt 0 (length cs) then undoubled false (take (length cs - 1) cs) else c ∷ cs

-- a quotation mark
abbrev pub is_mark : ℕ → Bool
is_mark c = c == 34

-- the content at a place of a row, one quotation mark for each two if it has any
abbrev pub content_at : List ℕ → CellPlace → List ℕ
content_at row p = if p.has_marks then undoubled false (slice_range row p.start p.end) else slice_range row p.start p.end
