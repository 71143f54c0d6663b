use Rattle.std.proofs.Common.{◌^◌, ◌-◌, ◌<◌}
use Rattle.rpg_files.specs.Counting.{faults_of}
use Rattle.rpg_record_merging.proofs.ahead.put_ahead.Given as goal

abbrev pub invariant-loop-count : goal.invariant-loop-count
invariant-loop-count g l = faults_of l.writer < 2 ^ 64 - 1
