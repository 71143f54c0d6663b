use Rattle.std.proofs.Common.{◌≡◌, true}
use Rattle.rpg_fit_deck.specs.New.{nothing_reported}
use Rattle.rpg_fit_deck.proofs.editor.slots_as_they_are.Given as goal

abbrev pub invariant-slots : goal.invariant-slots
invariant-slots l = nothing_reported l.slots.items ≡ true
