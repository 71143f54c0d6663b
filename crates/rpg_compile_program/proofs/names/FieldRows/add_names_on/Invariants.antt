use Rattle.std.proofs.Common.{◌≡◌, ◌+◌}
use Rattle.rpg_compile_program.specs.Names.{AddsNames}
use Rattle.rpg_compile_program.proofs.names.FieldRows.add_names_on.Given as goal

abbrev pub invariant-loop-definition : goal.invariant-loop-definition
invariant-loop-definition l = record {
  place : l.place ≡ l.start + l.definition-index;
  added : AddsNames l.loaded l.source l.start l.place l.initial.self l.self;
}
