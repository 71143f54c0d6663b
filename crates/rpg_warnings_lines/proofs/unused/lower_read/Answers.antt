use Rattle.std.proofs.Common.{◌+◌, ◌∙◌, ap, drop, sym}
use Rattle.rpg_warnings_lines.proofs.Noting.{lowers_more, read_more}
use Rattle.rpg_warnings_lines.specs.Marks.{least_at, least_with, marks_of}
use Rattle.rpg_warnings_lines.specs.Unused.{read_from}
use Rattle.rpg_warnings_lines.specs.Uses.{read_on}
use Rattle.rpg_warnings_lines.proofs.unused.lower_read.Goals as goal

pub loop-card-preserved : goal.loop-card-preserved
loop-card-preserved c = λ i.
    let cards = c.args.source.now in
    let items = c.as_slice-card-items.result.now in
    let card = c.card-item.result in
    let k = c.loop-card.card-index in
    let old = least_at i c.loop-card.read.items in
    let rest = read_from cards (drop (k + 1) items) in
    ap (λ n. least_with i n rest) (c.in_ok-note_read.ensures i)
    ∙ sym (lowers_more i old (marks_of card.number (read_on cards card.spec)) rest)
    ∙ ap (least_with i old) (sym (read_more cards items k card c.loop-card-test.true c.card-item.is))
    ∙ c.loop-card.invariant i
