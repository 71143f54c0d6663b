use Rattle.std.proofs.Common.{sym, subst}
use Rattle.rpg_machine_lines.specs.Plans.{IsPlanOf}
use Rattle.rpg_machine_lines.specs.Ready.{IsNear}
use Rattle.rpg_machine_lines.specs.Right.{AreRightLines, HasLineRoom}
use Rattle.rpg_machine.specs.Running.{Running}
use Rattle.rpg_program.specs.Object.{Object}
use Rattle.rpg_machine.proofs.machine.Machine.output.Goals as goal

pub write_line_out-requires-clause-lines : goal.write_line_out-requires-clause-lines
write_line_out-requires-clause-lines g c = subst (λ (o : Object). AreRightLines o) (sym c.self.invariant.own) c.is_orderly.ensures.lines

pub write_line_out-requires-clause-can : goal.write_line_out-requires-clause-can
write_line_out-requires-clause-can g c = record {
  near = subst (λ (r : Running). IsNear r.config.world.paper.here) (sym c.self.view_is) c.requires.ready.few_pages;
  room = subst (λ (o : Object). HasLineRoom o c.self.inside.state.writer.text.items) (sym c.self.invariant.own) c.self.invariant.room;
  plan = subst (λ (o : Object). IsPlanOf o c.plan-plan.result.now) (sym c.self.invariant.own) c.plan-plan.ensures;
}
