use Rattle.std.proofs.Common.{◌<◌, arith, get_or, length}
use Rattle.rpg_causes_flow.proofs.Bits.{spread_more}
use Rattle.rpg_causes_flow.specs.Index.{has_word_bit}
use Rattle.rpg_causes_flow.proofs.cycles.spread.Goals as goal

pub loop-call-preserved : goal.loop-call-preserved
loop-call-preserved c =
    let below = c.requires.below c.loop-call.call-index c.loop-call-test.true in
    let there : c.from-in-loop-call.result < length c.loop-call.next = omega (arith, below.0) in
    spread_more c.loop-call.next c.args.words.now c.args.calls.now c.loop-call.call-index c.from-in-loop-call.result c.from.result
    (λ x i. has_word_bit (get_or c.args.next.now x 0) i) c.loop-call-test.true c.from-in-loop-call.ensures c.from.ensures there c.loop-call.invariant
