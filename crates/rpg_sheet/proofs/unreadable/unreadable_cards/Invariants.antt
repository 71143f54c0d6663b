use Rattle.std.proofs.Common.{◌≡◌, ℕ, ◌++◌, List, length}
use Rattle.rpg_sheet.specs.Seen.{AreLinesSeen}
use Rattle.rpg_sheet.specs.Sheet.{source}
use Rattle.rpg_sheet.specs.Unreadable.{unreadable_after, unreadable_cards}
use Rattle.rpg_sheet.proofs.unreadable.unreadable_cards.Given as goal

-- the lines that are done, and what is left
abbrev pub invariant-loop-rest : goal.invariant-loop-rest
invariant-loop-rest l = record {
  done : List (List ℕ);
  seen : AreLinesSeen done l.earlier.count l.earlier.latest l.earlier.data_begun;
  so_far : l.found.items ++ unreadable_after done (source l.rest) ≡ unreadable_cards (source l.text);
}

abbrev pub decreases-loop-rest : goal.decreases-loop-rest
decreases-loop-rest l = length l.rest
