use Rattle.std.proofs.Common.{◌+◌, sym}
use Rattle.rpg_text.proofs.LineLemmas.{lines_at_line_feed, lines_last, lines_following}
use Rattle.rpg_text.proofs.line.first_line.Goals as goal

pub returns-in-Some-clause-cut : goal.returns-in-Some-clause-cut
returns-in-Some-clause-cut c =
    rw (lines_following c.args.text.now (c.in-Some.end + 1), c.without_return.ensures)
    (lines_at_line_feed c.args.text.now c.in-Some.end (sym c.in-Some.ensures.place))

pub returns-in-None-clause-cut : goal.returns-in-None-clause-cut
returns-in-None-clause-cut c = lines_last c.args.text.now c.requires (sym c.in-None.ensures.place)
