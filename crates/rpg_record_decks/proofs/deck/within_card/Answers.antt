use Rattle.std.proofs.Common.{arith, sym}
use Rattle.std.proofs.lemmas.List.{length-take-le, take_all}
use Rattle.rpg_record_decks.proofs.deck.within_card.Goals as goal

pub slice_bounds-result-end : goal.slice_bounds-result-end
slice_bounds-result-end c = let long = c.if-line-gt-COLUMNS.true in sym (length-take-le 80 c.args.line.now (omega arith))

pub returns-then-line-gt-COLUMNS-clause-fits : goal.returns-then-line-gt-COLUMNS-clause-fits
returns-then-line-gt-COLUMNS-clause-fits c =
    let long = c.if-line-gt-COLUMNS.true in
    let same = length-take-le 80 c.args.line.now (omega arith) in
    omega arith

pub returns-else-line-gt-COLUMNS-clause-value : goal.returns-else-line-gt-COLUMNS-clause-value
returns-else-line-gt-COLUMNS-clause-value c = let short = c.if-line-gt-COLUMNS.false in sym (take_all 80 c.args.line.now (omega arith))
