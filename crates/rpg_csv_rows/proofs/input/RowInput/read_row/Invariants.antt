use Rattle.std.proofs.Common.{◌≡◌, ◌≤◌, ◌-◌, vec_len}
use Rattle.rpg_csv_rows.proofs.InputLemmas.{SoFar}
use Rattle.rpg_csv_rows.specs.Inputs.{remaining_in}
use Rattle.rpg_files.specs.Counting.{faults_of}
use Rattle.rpg_csv_rows.proofs.input.RowInput.read_row.Given as goal

abbrev pub invariant-loop-self : goal.invariant-loop-self
invariant-loop-self g l = record {
  within : vec_len l.row ≤ 1048579;
  row : SoFar 1048579 l.is_open (remaining_in g.R.Read.remaining l.initial.reader l.initial.self) (remaining_in g.R.Read.remaining l.reader l.self) l.row.items;
  faults : faults_of l.reader ≡ faults_of l.initial.reader;
}

abbrev pub decreases-loop-self : goal.decreases-loop-self
decreases-loop-self g l = 1048579 - vec_len l.row
