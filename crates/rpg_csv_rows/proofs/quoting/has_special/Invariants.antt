use Rattle.std.proofs.Common.{◌≡◌, drop}
use Rattle.std.specs.List.{list_any}
use Rattle.rpg_csv_rows.specs.Quoting.{is_special}
use Rattle.rpg_csv_rows.proofs.quoting.has_special.Given as goal

abbrev pub invariant-loop-byte : goal.invariant-loop-byte
invariant-loop-byte l = list_any (is_special l.delimiter) (drop l.byte-index l.cell) ≡ list_any (is_special l.delimiter) l.cell
