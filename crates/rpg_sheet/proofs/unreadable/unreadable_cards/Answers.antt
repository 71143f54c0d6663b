use Rattle.std.proofs.Common.{arith}
use Rattle.rpg_sheet.specs.Sheet.{source}
use Rattle.rpg_sheet.proofs.UnreadableLemmas.{cut_short}
use Rattle.rpg_sheet.proofs.unreadable.unreadable_cards.Goals as goal

pub returns-then-earlier-gt-MOST_CARDS : goal.returns-then-earlier-gt-MOST_CARDS
returns-then-earlier-gt-MOST_CARDS c =
    let kept = c.loop-rest.invariant in
    cut_short c.loop-rest.found.items _ kept.done (source c.loop-rest.rest.now) c.loop-rest.earlier.count kept.so_far kept.seen.count_is (omega arith)
