use Rattle.std.proofs.Common.{◌≡◌, ◌++◌}
use Rattle.std.specs.Prelude.{map, drop}
use Rattle.rpg_fit_deck.specs.New.{new_cards}
use Rattle.rpg_fit_deck.proofs.render.cards_of.Given as goal

abbrev pub invariant-loop-line : goal.invariant-loop-line
invariant-loop-line l =
    map (λ line. line.now) l.cards.items ++ new_cards (map (λ line. line.now) (drop l.line-index l.lines)) l.rest
    ≡ new_cards (map (λ line. line.now) l.lines) l.slots
