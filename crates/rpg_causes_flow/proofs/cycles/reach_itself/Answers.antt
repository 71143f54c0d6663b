use Rattle.std.proofs.Common.{arith}
use Rattle.rpg_causes_flow.proofs.Bits.{reaching-none}
use Rattle.rpg_causes_flow.proofs.cycles.reach_itself.Goals as goal

pub returns : goal.returns
returns c = λ calls.
    let all = c.loop-number-test.false in
    reaching-none c.loop-number.words calls c.args.first _ c.loop-number.auto.words (λ x i there small. c.loop-number.invariant x i (omega arith) small)
