use Rattle.std.proofs.Common.{◌≡◌, ◌++◌, drop, take}
use Rattle.rpg_csv_rows.specs.Rows.{ends_row, is_open_through, row_through}
use Rattle.rpg_csv_rows.proofs.input.row_part.Given as goal

abbrev pub invariant-loop-place : goal.invariant-loop-place
invariant-loop-place l = record {
  bytes : row_through l.was_open l.bytes ≡ take l.place l.bytes ++ row_through l.is_open (drop l.place l.bytes);
  ended : ends_row l.was_open l.bytes ≡ ends_row l.is_open (drop l.place l.bytes);
  inside : is_open_through l.was_open l.bytes ≡ is_open_through l.is_open (drop l.place l.bytes);
}
