use Rattle.std.proofs.Common.{◌≡◌, ◌+◌, ◌≤◌, drop, length}
use Rattle.rpg_verify.specs.Bound.{most_back}
use Rattle.rpg_verify.proofs.bound.most_back.Given as goal

abbrev pub invariant-loop-i : goal.invariant-loop-i
invariant-loop-i l = record {
  done : l.most ≡ most_back l.first l.costs (l.first + l.i) (drop l.i l.code);
  within : l.i ≤ length l.code;
}

abbrev pub decreases-loop-i : goal.decreases-loop-i
decreases-loop-i l = l.i
