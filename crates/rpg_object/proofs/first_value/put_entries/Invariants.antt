use Rattle.std.proofs.Common.{◌≡◌, ◌++◌, drop, map}
use Rattle.rpg_program.specs.Values.{held}
use Rattle.rpg_object_format.specs.Format.{keep, spelled_along}
use Rattle.rpg_object.specs.FirstValues.{value}
use Rattle.rpg_object.proofs.first_value.put_entries.Given as goal

abbrev pub invariant-loop-value : goal.invariant-loop-value
invariant-loop-value l = l.out.items ++ spelled_along (λ s v. (value l.form.kind l.form.length).spelling v) keep tt (drop l.value-index (map held l.entries)) ≡ l.initial.out.items ++ spelled_along (λ s v. (value l.form.kind l.form.length).spelling v) keep tt (map held l.entries)
