use Rattle.std.proofs.Common.{◌≤◌}
use Rattle.rpg_files.specs.Counting.{faults_of}
use Rattle.rpg_files.specs.Reading.{reader_of}
use Rattle.rpg_show_cases.proofs.files.write_records.Given as goal

abbrev pub invariant-loop-i : goal.invariant-loop-i
invariant-loop-i g l = faults_of (reader_of l.reader) ≤ l.i
