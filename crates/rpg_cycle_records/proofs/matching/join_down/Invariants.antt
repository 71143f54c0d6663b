use Rattle.std.proofs.Common.{◌≡◌, ◌++◌, ◌-◌}
use Rattle.rpg_cycle_records.specs.Matching as spec
use Rattle.rpg_cycle_records.proofs.matching.join_down.Given as goal

abbrev pub invariant-loop-i : goal.invariant-loop-i
invariant-loop-i l = l.bytes.items ++ spec.joined_down l.fields l.text (9 - l.i) ≡ l.initial.bytes.items ++ spec.joined_down l.fields l.text 9
