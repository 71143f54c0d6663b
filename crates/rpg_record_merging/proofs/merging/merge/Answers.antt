use Rattle.std.proofs.Common.{ap, arith}
use Rattle.rpg_files.specs.Counting.{faults_of}
use Rattle.rpg_record_merging.proofs.merging.merge.Goals as goal
use Rattle.rpg_record_merging.proofs.merging.merge.Goals.{in-Some-get+in_ok-send_record, in_default-get}

pub loop-count-preserved : goal.loop-count-preserved
loop-count-preserved g c = elim c.match-get.branch [
  | in-Some-get+in_ok-send_record w ↦
      let same = w.in_ok-send_record.ensures.faults in
      let here = ap (λ x. faults_of x) w.writer-is in
      let before = c.loop-count.invariant in
      omega (arith, same, here, before)
  | in_default-get w ↦
      let here = ap (λ x. faults_of x) w.writer-is in
      let before = c.loop-count.invariant in
      omega (arith, here, before)
]
