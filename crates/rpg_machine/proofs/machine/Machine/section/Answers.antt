use Rattle.std.proofs.Common.{◌<◌, ◌^◌, sym, subst, arith}
use Rattle.rpg_machine.proofs.Readiness.{able_of, ready_of}
use Rattle.rpg_machine.specs.Potential.{PaysForSection}
use Rattle.rpg_machine.specs.Running.{Running}
use Rattle.rpg_machine.specs.State.{running_of}
use Rattle.rpg_machine.proofs.machine.Machine.section.Goals as goal

pub run_section-requires-clause-can : goal.run_section-requires-clause-can
run_section-requires-clause-can g c = record {
  able = able_of c.self.inside.program c.self.inside.state c.args.self.now c.self.view_is c.requires.ready c.self.invariant.own;
  room = c.self.invariant.room;
}

pub returns-clause-ready : goal.returns-clause-ready
returns-clause-ready g c =
    let before : c.self.inside.state.allowance < 2 ^ 16 = subst (λ (r : Running). r.config.allowance < 2 ^ 16) (sym c.self.view_is) c.requires.ready.few_spends in
    λ is. ready_of c.self.inside.program c.run_section.new.state c.in_ok-end.ensures.kept.able (c.in_ok-end.ensures.no_cell_is_left is)
    (omega (arith, before, c.run_section.ensures.kept.spent))

pub returns-clause-bound : goal.returns-clause-bound
returns-clause-bound g c =
    let new = running_of c.self.inside.program c.run_section.new.state in
    subst (λ (r : Running). PaysForSection c.args.section r new) c.self.view_is c.in_ok-end.ensures.bound
