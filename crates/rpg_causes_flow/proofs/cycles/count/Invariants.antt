use Rattle.std.proofs.Common.{ℕ, ◌<◌, ◌≤◌, get_or}
use Rattle.rpg_causes_flow.proofs.cycles.count.Given as goal

abbrev pub invariant-loop-call : goal.invariant-loop-call
invariant-loop-call l = record {
  below : (k : ℕ) → k < l.call-index → ((get_or l.calls k (0, 0)).0 < l.count) × ((get_or l.calls k (0, 0)).1 < l.count);
  most : l.count ≤ 65536;
}
