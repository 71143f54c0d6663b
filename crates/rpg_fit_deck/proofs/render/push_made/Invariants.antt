use Rattle.std.proofs.Common.{◌≡◌, ◌++◌}
use Rattle.std.specs.Prelude.{map, take}
use Rattle.rpg_fit_deck.specs.New.{made_lines}
use Rattle.rpg_fit_deck.proofs.render.push_made.Given as goal

abbrev pub invariant-loop-one : goal.invariant-loop-one
invariant-loop-one l = map (λ line. line.now) l.cards.items ≡ map (λ line. line.now) l.initial.cards.items ++ made_lines (take l.one-index l.made)
