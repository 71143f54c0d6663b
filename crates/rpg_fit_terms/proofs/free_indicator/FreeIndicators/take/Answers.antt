use Rattle.std.proofs.Common.{arith}
use Rattle.rpg_fit_terms.specs.Indicators.{numbered}
use Rattle.rpg_fit_terms.proofs.Taken.{tried_down}
use Rattle.rpg_fit_terms.proofs.free_indicator.FreeIndicators.take.Goals as goal

pub returns-in-Some-clause-greatest : goal.returns-in-Some-clause-greatest
returns-in-Some-clause-greatest c =
    λ n low high. tried_down c.args.view.now numbered c.args.self.now.left c.loop-down.down c.loop-down.invariant n (omega arith) high

pub returns-clause-all_used : goal.returns-clause-all_used
returns-clause-all_used c =
    λ n low high. tried_down c.args.view.now numbered c.args.self.now.left c.loop-down.down c.loop-down.invariant n (omega arith) high
