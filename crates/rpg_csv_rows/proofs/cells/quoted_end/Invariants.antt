use Rattle.std.proofs.Common.{◌≡◌, ℕ, ◌+◌, ◌++◌, List, drop, false, not, take, true}
use Rattle.rpg_csv_rows.specs.Cells.{quoted_fault, raw_end}
use Rattle.rpg_csv_rows.proofs.cells.quoted_end.Given as goal

abbrev pub invariant-loop-place : goal.invariant-loop-place
invariant-loop-place l = record {
  end : raw_end l.delimiter true l.text ≡ l.place + raw_end l.delimiter (not l.is_closed) (drop l.place l.text);
  strict : (ys : List ℕ) → quoted_fault false (take l.place l.text ++ ys) ≡ quoted_fault l.is_closed ys;
}
