use Rattle.rpg_cycle.proofs.Machining.{output_lines}
use Rattle.rpg_cycle.proofs.Spending.{output_spends}
use Rattle.rpg_cycle.proofs.Staging.{answered}
use Rattle.rpg_cycle.proofs.phases.output_lines.Goals as goal

pub returns : goal.returns
returns g c =
    let a = c.args.machine.now in
    let b = c.output.new.self in
    let x = c.in_ok-end.ensures in
    answered c.in_ok-end.end c.go_on.result c.go_on.ensures.goes c.go_on.ensures.stops (λ e is. output_lines c.args.time a b _ e is x.done) x.ready (output_spends c.args.time _ a b x.done) x.grows
