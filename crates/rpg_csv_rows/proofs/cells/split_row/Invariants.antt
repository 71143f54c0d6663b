use Rattle.std.proofs.Common.{◌≡◌, ◌+◌, ◌-◌, ◌++◌, ◌≤◌, length, map, false, vec_len}
use Rattle.rpg_csv_rows.proofs.CellLemmas.{cells_from}
use Rattle.rpg_csv_rows.specs.Cells.{checked_row, content_at, content_of, raw_cells}
use Rattle.rpg_csv_rows.proofs.cells.split_row.Given as goal

abbrev pub invariant-loop-start : goal.invariant-loop-start
invariant-loop-start l = record {
  within : l.start ≤ length l.row + 1;
  few : vec_len l.cells ≤ l.start;
  contents : map content_of (raw_cells l.delimiter false l.row) ≡ map (content_at l.row) l.cells.items ++ map content_of (cells_from l.delimiter l.row l.start);
  strict : checked_row 0 (raw_cells l.delimiter false l.row) ≡ checked_row (vec_len l.cells) (cells_from l.delimiter l.row l.start);
}

abbrev pub decreases-loop-start : goal.decreases-loop-start
decreases-loop-start l = length l.row + 1 - l.start
