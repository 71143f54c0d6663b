use Rattle.std.proofs.Common.{◌≡◌, ℕ, ◌+◌, ◌++◌, List, drop, false, take}
use Rattle.rpg_csv_rows.specs.Cells.{plain_fault, raw_end}
use Rattle.rpg_csv_rows.proofs.cells.plain_end.Given as goal

abbrev pub invariant-loop-place : goal.invariant-loop-place
invariant-loop-place l = record {
  end : raw_end l.delimiter false l.text ≡ l.place + raw_end l.delimiter false (drop l.place l.text);
  strict : (ys : List ℕ) → plain_fault (take l.place l.text ++ ys) ≡ plain_fault ys;
}
