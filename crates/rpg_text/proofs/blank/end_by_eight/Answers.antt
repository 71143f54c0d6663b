use Rattle.std.proofs.Common.{arith}
use Rattle.std.specs.Cmp.Lexicographic.{same_text}
use Rattle.rpg_text.proofs.Blanks.{eight_more}
use Rattle.rpg_text.proofs.blank.end_by_eight.Goals as goal

-- src/blank.rt:33:5
pub loop-end-preserved : goal.loop-end-preserved
loop-end-preserved c =
    let eight = eight_more c.loop-end.end c.args.text.now c.loop-end-test.true (same_text _ _ c.if-eq.ensures) in
    record { within = omega (arith, c.loop-end.invariant.within); following = omega (arith, c.loop-end.invariant.following, c.loop-end.invariant.within, c.loop-end-test.true, eight) }
