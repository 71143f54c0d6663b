use Rattle.std.proofs.Common.{◌∙◌}
use Rattle.rpg_causes_flow.proofs.Bits.{all_below}
use Rattle.rpg_causes_flow.proofs.cycles.cycles.Goals as goal
use Rattle.rpg_symbols.specs.Chains.{reaches}

pub returns : goal.returns
returns c = λ p.
    c.loop-first.invariant p ∙ all_below c.count-count.result c.loop-first.first c.args.calls.now c.count-count.ensures.below c.loop-first-test.false p (reaches c.args.calls.now p.1 p.0)
