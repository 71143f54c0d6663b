use Rattle.std.proofs.Common.{◌≡◌, ◌++◌, drop, map}
use Rattle.rpg_program.specs.Values.{entries_held}
use Rattle.rpg_object_format.specs.Format.{spelled_along}
use Rattle.rpg_object.specs.FirstValues.{next_entries, later_fields}
use Rattle.rpg_object.proofs.first_value.put_values.Given as goal

abbrev pub invariant-loop-i : goal.invariant-loop-i
invariant-loop-i l = l.out.items ++ spelled_along (λ s vs. (next_entries s).spelling vs) later_fields (drop l.i l.fields) (drop l.i (map entries_held l.list)) ≡ l.initial.out.items ++ spelled_along (λ s vs. (next_entries s).spelling vs) later_fields l.fields (map entries_held l.list)
