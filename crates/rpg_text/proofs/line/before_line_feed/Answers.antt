use Rattle.std.proofs.Common.{arith, sym}
use Rattle.rpg_text.proofs.LineFeeds.{none_before}
use Rattle.rpg_text.proofs.line.before_line_feed.Goals as goal

pub loop-at-preserved : goal.loop-at-preserved
loop-at-preserved c =
    let kept = c.loop-at.invariant in
    record {
      within = omega (arith, c.loop-at-test.true);
      before = none_before c.args.text.now c.loop-at.at (omega (arith, c.loop-at-test.true, kept.within)) kept.before (sym c.if-has_no_line_feed.ensures);
    }
