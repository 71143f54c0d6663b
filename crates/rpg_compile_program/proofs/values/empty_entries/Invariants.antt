use Rattle.std.proofs.Common.{◌≡◌, map, replicate}
use Rattle.rpg_program.specs.Values.{held}
use Rattle.rpg_compile_program.proofs.values.empty_entries.Given as goal
use Rattle.rpg_compile_program.specs.Data.{first_of_kind}

abbrev pub invariant-loop : goal.invariant-loop
invariant-loop l = map held l.values.items ≡ replicate l.counter (first_of_kind l.form.kind l.form.length)
