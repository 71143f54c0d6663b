use Rattle.std.proofs.Common.{◌≡◌, ◌++◌, ◌+◌, ◌≤◌, length}
use Rattle.std.specs.List.{join_with_byte, slice_split}
use Rattle.rpg_text.specs.Lines.{is_line_feed}
use Rattle.rpg_record_decks.specs.Fitted.{fitted, fitted_from}
use Rattle.rpg_record_decks.proofs.fitted.fitted_deck.Given as goal

abbrev pub invariant-loop-end : goal.invariant-loop-end
invariant-loop-end l = record {
  few : l.number + length l.rest ≤ length l.source + 1;
  deck : l.deck.items ++ join_with_byte 10 (fitted_from l.changes l.number (slice_split is_line_feed l.rest)) ≡ fitted l.changes l.source;
}

abbrev pub decreases-loop-end : goal.decreases-loop-end
decreases-loop-end l = length l.rest
