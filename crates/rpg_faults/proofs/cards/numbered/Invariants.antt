use Rattle.std.proofs.Common.{◌≡◌, ◌≤◌, ◌+◌, ◌++◌, vec_len, vec_capacity}
use Rattle.std.specs.Vec.Iter.{into_iter_items, into_iter_len}
use Rattle.rpg_faults.specs.Cards as specs_of
use Rattle.rpg_faults.proofs.cards.numbered.Given as goal

-- the cards that are done, and those left
abbrev pub invariant-loop-spec : goal.invariant-loop-spec
invariant-loop-spec l = record {
  made : l.known.items ++ specs_of.numbered_cards l.number (into_iter_items l.rest) ≡ specs_of.numbered_cards 1 l.fn.specs.items;
  few : l.number + into_iter_len l.rest ≤ 2001;
  room : vec_len l.known + into_iter_len l.rest ≤ vec_capacity l.known;
}

abbrev pub decreases-loop-spec : goal.decreases-loop-spec
decreases-loop-spec l = into_iter_len l.rest
