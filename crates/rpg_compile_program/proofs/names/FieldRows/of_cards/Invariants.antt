use Rattle.std.proofs.Common.{◌≡◌, length, take}
use Rattle.rpg_cards.specs.Names.{definitions}
use Rattle.rpg_compile_program.specs.Names.{AreFieldsOf, names_up_to}
use Rattle.rpg_compile_program.proofs.names.FieldRows.of_cards.Given as goal

abbrev pub invariant-loop-card : goal.invariant-loop-card
invariant-loop-card l = record {
  place : l.place ≡ length (definitions (take l.card-index l.card-items));
  fields : AreFieldsOf l.loaded (names_up_to l.source l.place) l.fields;
}
