use Rattle.std.proofs.Common.{◌≡◌, length, take}
use Rattle.rpg_cards.specs.Constants.{constants_in}
use Rattle.rpg_compile_program.specs.Constants.{AddsConstants, different}
use Rattle.rpg_compile_program.proofs.names.FieldRows.add_constants.Given as goal

abbrev pub invariant-loop-card : goal.invariant-loop-card
invariant-loop-card l = record {
  place : l.place ≡ length (constants_in (take l.card-index l.card-items));
  added : AddsConstants (different (constants_in l.source) l.place) l.initial.self l.self;
}
