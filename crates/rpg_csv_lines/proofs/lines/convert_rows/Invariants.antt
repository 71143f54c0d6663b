use Rattle.std.proofs.Common.{◌≡◌}
use Rattle.rpg_files.specs.Counting.{faults_of}
use Rattle.rpg_csv_lines.proofs.lines.convert_rows.Given as goal

abbrev pub invariant-loop-count : goal.invariant-loop-count
invariant-loop-count g l = record {
  read : faults_of l.reader ≡ faults_of l.initial.reader;
  write : faults_of l.writer ≡ faults_of l.initial.writer;
}
