use Rattle.std.proofs.Common.{take}
use Rattle.rpg_compile_program.specs.Names.{AreFieldsOf}
use Rattle.rpg_compile_program.proofs.names.FieldRows.of_names.Given as goal

abbrev pub invariant-loop-place : goal.invariant-loop-place
invariant-loop-place l = AreFieldsOf l.loaded (take l.place l.names) l.fields
