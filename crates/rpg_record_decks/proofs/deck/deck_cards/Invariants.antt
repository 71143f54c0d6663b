use Rattle.std.proofs.Common.{◌≡◌, ◌≤◌, length}
use Rattle.std.specs.Str.Lines.{lines}
use Rattle.rpg_record_decks.specs.Cards.{cards_on_lines, cards_of}
use Rattle.rpg_record_decks.specs.Outcomes.{onto}
use Rattle.rpg_record_decks.proofs.deck.deck_cards.Given as goal

abbrev pub invariant-loop-rest : goal.invariant-loop-rest
invariant-loop-rest l = record { few : l.number ≤ 2001; cards : onto l.cards.items (cards_on_lines l.number (lines l.rest)) ≡ cards_of l.source }

abbrev pub decreases-loop-rest : goal.decreases-loop-rest
decreases-loop-rest l = length l.rest
