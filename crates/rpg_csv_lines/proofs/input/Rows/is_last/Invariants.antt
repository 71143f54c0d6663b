use Rattle.std.proofs.Common.{◌≡◌}
use Rattle.rpg_files.specs.Counting.{faults_of}
use Rattle.rpg_csv_lines.proofs.input.Rows.is_last.Given as goal

abbrev pub invariant-loop : goal.invariant-loop
invariant-loop g l = record {
  faults : faults_of l.reader ≡ faults_of l.initial.reader;
}
