use Rattle.std.proofs.Common.{◌≡◌, ◌++◌, map}
use Rattle.rpg_program.specs.Values.{held}
use Rattle.rpg_compile_program.specs.Tables.{values_on_card}
use Rattle.rpg_compile_program.proofs.tables.TableData.add_entries.Given as goal

abbrev pub invariant-loop-i : goal.invariant-loop-i
invariant-loop-i l = map held l.values.items ≡ map held l.initial.values.items ++ values_on_card l.self l.card l.i
