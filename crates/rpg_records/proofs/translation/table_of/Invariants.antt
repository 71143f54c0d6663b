use Rattle.std.proofs.Common.{◌≡◌, ℕ, ◌/◌, ◌%◌, ◌<◌, length, slice_index}
use Rattle.rpg_records.specs.Columns.{column_at, column_character}
use Rattle.rpg_records.proofs.translation.table_of.Given as goal

abbrev pub invariant-loop-place : goal.invariant-loop-place
invariant-loop-place l = record {
  long : length l.table ≡ 1024;
  done : (k : ℕ) → k < l.place → slice_index l.table k ≡ column_character l.page l.low_blank (column_at (k / 256)) (k % 256);
}
