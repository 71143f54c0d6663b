use Rattle.std.proofs.Common.{◌≡◌, ◌++◌, drop}
use Rattle.rpg_csv_rows.specs.Quoting.{doubled}
use Rattle.rpg_csv_rows.proofs.quoting.add_doubled.Given as goal

abbrev pub invariant-loop-byte : goal.invariant-loop-byte
invariant-loop-byte l = l.out.items ++ doubled (drop l.byte-index l.cell) ≡ l.initial.out.items ++ doubled l.cell
