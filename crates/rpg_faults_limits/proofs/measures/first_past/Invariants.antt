use Rattle.std.proofs.Common.{◌≡◌, drop}
use Rattle.rpg_faults_limits.specs.Causes.{first_past}
use Rattle.rpg_faults_limits.proofs.measures.first_past.Given as goal

abbrev pub invariant-loop-count : goal.invariant-loop-count
invariant-loop-count l = first_past (drop l.count-index l.counts) ≡ first_past l.counts
