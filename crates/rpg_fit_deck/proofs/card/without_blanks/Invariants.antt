use Rattle.std.proofs.Common.{◌≡◌, length}
use Rattle.rpg_fit_deck.specs.Columns.{without_blanks}
use Rattle.rpg_fit_deck.proofs.card.without_blanks.Given as goal

abbrev pub invariant-loop-rest : goal.invariant-loop-rest
invariant-loop-rest l = without_blanks l.rest ≡ without_blanks l.text

abbrev pub decreases-loop-rest : goal.decreases-loop-rest
decreases-loop-rest l = length l.rest
