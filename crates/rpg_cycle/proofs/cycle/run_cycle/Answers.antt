use Rattle.std.proofs.Common.{◌≤◌, ◌<◌, ◌+◌, ◌^◌, refl, sym, ap, subst}
use Rattle.rpg_cycle.proofs.Composing.{memory_map}
use Rattle.rpg_cycle.proofs.Spending.{full_reach, phases_bounded, phases_few}
use Rattle.rpg_cycle.specs.Cycled.{DoesPhases, KeepsWell}
use Rattle.rpg_cycle.specs.Spending.{phases_weight, reach}
use Rattle.rpg_machine.specs.Running.{Running, refilled}
use Rattle.rpg_program.specs.Object.{Object}
use Rattle.rpg_verify.specs.Bound.{bound}
use Rattle.rpg_cycle.proofs.cycle.run_cycle.Goals as goal

pub do_phases-requires-clause-ready : goal.do_phases-requires-clause-ready
do_phases-requires-clause-ready g c = c.refill.ensures.ready c.requires.ready

pub do_phases-requires-clause-few : goal.do_phases-requires-clause-few
do_phases-requires-clause-few g c =
    let a = c.args.machine.now in
    let r = c.refill.new.self in
    let same = ap (λ (r : Running). r.program) c.refill.ensures.refilled in
    let low = subst (λ (o : Object). bound o < 2 ^ 48) c.program.ensures c.is_bounded.ensures.few in
    subst (λ (o : Object). reach o r + phases_weight o ≤ 2 ^ 48) (sym same) (phases_few a.program r (full_reach a.program a r refl c.refill.ensures.refilled) low)

pub do_phases-requires-clause-kept : goal.do_phases-requires-clause-kept
do_phases-requires-clause-kept g c = subst (λ (o : Object). KeepsWell o c.args.kept.now) (sym (ap (λ (r : Running). r.program) c.refill.ensures.refilled)) c.requires.kept

pub returns : goal.returns
returns g c =
    let a = c.args.machine.now in
    let done = subst (λ (r : Running). DoesPhases r.program c.args.kept.now c.args.primary c.args.secondary r c.do_phases.result c.do_phases.new.kept c.do_phases.new.machine)
    c.refill.ensures.refilled c.do_phases.ensures in
    record {
      goes = done.goes;
      stops = done.stops;
      few = memory_map c.do_phases.result _ _ (λ s. phases_bounded a.program (refilled a) (full_reach a.program a (refilled a) refl refl) c.do_phases.new.machine s) done.spends;
      grows = done.grows;
    }
