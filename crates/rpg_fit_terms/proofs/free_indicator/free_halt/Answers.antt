use Rattle.std.proofs.Common.{arith}
use Rattle.rpg_fit_terms.specs.Indicators.{halt}
use Rattle.rpg_fit_terms.proofs.Taken.{tried_down}
use Rattle.rpg_fit_terms.proofs.free_indicator.free_halt.Goals as goal

pub returns-clause-all_used : goal.returns-clause-all_used
returns-clause-all_used c =
    λ n low high. tried_down c.args.view.now halt 9 c.loop-down.down c.loop-down.invariant n (omega arith) high
