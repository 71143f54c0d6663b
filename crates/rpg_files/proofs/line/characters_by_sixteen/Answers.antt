use Rattle.std.proofs.Common.{arith, sym}
use Rattle.rpg_files.proofs.FirstLines.{joined_slice}
use Rattle.rpg_files.proofs.line.characters_by_sixteen.Goals as goal

-- src/line.rt:41:5
pub loop-at-preserved : goal.loop-at-preserved
loop-at-preserved c =
    record { within = omega (arith, c.loop-at-test.true); all = joined_slice c.args.bytes.now c.loop-at.at 16 c.loop-at.invariant.all (sym c.if-has_only_characters.ensures) }
