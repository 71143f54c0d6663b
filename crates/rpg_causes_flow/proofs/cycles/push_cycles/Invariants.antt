use Rattle.std.proofs.Common.{◌≡◌, ◌&&◌, ◌||◌, take}
use Rattle.std.specs.List.{list_any}
use Rattle.rpg_causes_flow.specs.Index.{is_in_word, same_call}
use Rattle.rpg_causes_flow.proofs.cycles.push_cycles.Given as goal
use Rattle.rpg_symbols.specs.Chains.{Call, reaches}

abbrev pub invariant-loop-call : goal.invariant-loop-call
invariant-loop-call l = (p : Call)
    → list_any (same_call p) l.found.items ≡ (list_any (same_call p) l.initial.found.items || (list_any (same_call p) (take l.call-index l.calls) && (is_in_word l.first p.0 && reaches l.calls p.1 p.0)))
