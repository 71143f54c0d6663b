use Rattle.std.proofs.Common.{◌≡◌, drop}
use Rattle.std.specs.List.{list_any}
use Rattle.rpg_csv_rows.specs.Cells.{is_mark}
use Rattle.rpg_csv_rows.proofs.cells.has_mark.Given as goal

abbrev pub invariant-loop-byte : goal.invariant-loop-byte
invariant-loop-byte l = list_any is_mark (drop l.byte-index l.text) ≡ list_any is_mark l.text
