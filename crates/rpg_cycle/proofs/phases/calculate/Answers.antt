use Rattle.rpg_cycle.proofs.Machining.{calculated}
use Rattle.rpg_cycle.proofs.Spending.{section_spends}
use Rattle.rpg_cycle.proofs.Staging.{answered}
use Rattle.rpg_cycle.proofs.phases.calculate.Goals as goal

pub returns : goal.returns
returns g c =
    let a = c.args.machine.now in
    let b = c.section.new.self in
    let x = c.in_ok-end.ensures in
    answered c.in_ok-end.end c.go_on.result c.go_on.ensures.goes c.go_on.ensures.stops (λ e is. calculated c.args.section a b _ e is x.done) x.ready (section_spends c.args.section a b x.bound) x.grows
