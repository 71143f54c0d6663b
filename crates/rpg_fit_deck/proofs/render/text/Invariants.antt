use Rattle.std.proofs.Common.{◌≡◌}
use Rattle.std.specs.Prelude.{map, take}
use Rattle.std.specs.List.{flat_map}
use Rattle.rpg_text.specs.Lines.{with_line_feed}
use Rattle.rpg_fit_deck.proofs.render.text.Given as goal

abbrev pub invariant-loop-card : goal.invariant-loop-card
invariant-loop-card l = l.out.items ≡ flat_map with_line_feed (map (λ line. line.now) (take l.card-index l.cards))
