use Rattle.std.proofs.Common.{◌≡◌, drop}
use Rattle.rpg_cycle_records.specs.Matching.{value_cmp}
use Rattle.rpg_cycle_records.proofs.matching.compare_values.Given as goal

abbrev pub invariant-loop-place : goal.invariant-loop-place
invariant-loop-place l = value_cmp (drop l.place l.a) (drop l.place l.b) ≡ value_cmp l.a l.b
