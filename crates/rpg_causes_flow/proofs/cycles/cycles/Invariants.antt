use Rattle.std.proofs.Common.{◌≡◌, ◌-◌, ◌&&◌}
use Rattle.std.specs.List.{list_any}
use Rattle.std.specs.Prelude.{nat_lt}
use Rattle.rpg_causes_flow.specs.Index.{same_call}
use Rattle.rpg_causes_flow.proofs.cycles.cycles.Given as goal
use Rattle.rpg_symbols.specs.Chains.{Call, reaches}

abbrev pub invariant-loop-first : goal.invariant-loop-first
invariant-loop-first l = (p : Call) → list_any (same_call p) l.found.items ≡ (list_any (same_call p) l.calls && (nat_lt p.0 l.first && reaches l.calls p.1 p.0))

abbrev pub decreases-loop-first : goal.decreases-loop-first
decreases-loop-first l = l.count - l.first
