use Rattle.rpg_cycle.proofs.Growing.{alone_grows}
use Rattle.rpg_cycle.proofs.Turning.{sets_off}
use Rattle.rpg_cycle.proofs.Spending.{same_reach}
use Rattle.rpg_cycle.proofs.phases.set_off.Goals as goal

pub returns : goal.returns
returns g c =
    let a = c.args.machine.now in
    let b = c.turn_off.new.machine in
    let off = sets_off a.program a b c.turn_off.ensures.turned in
    record {
      goes = off;
      stops = tt;
      ready = c.turn_off.ensures.ready c.requires;
      spends = same_reach a.program a.program a b c.turn_off.ensures.turned;
      grows = alone_grows off;
    }
