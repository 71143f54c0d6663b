use Rattle.std.proofs.Common.{◌≡◌, ◌++◌, drop, false}
use Rattle.rpg_csv_rows.specs.Cells.{undoubled}
use Rattle.rpg_csv_rows.proofs.cells.add_undoubled.Given as goal

abbrev pub invariant-loop-byte : goal.invariant-loop-byte
invariant-loop-byte l = l.out.items ++ undoubled l.is_second (drop l.byte-index l.bytes) ≡ l.initial.out.items ++ undoubled false l.bytes
