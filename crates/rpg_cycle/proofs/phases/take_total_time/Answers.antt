use Rattle.std.proofs.Common.{sym, ◌∙◌}
use Rattle.rpg_cycle.proofs.Staging.{leaves_in, leaves_out}
use Rattle.rpg_cycle.specs.Phases as spec
use Rattle.rpg_cycle.proofs.phases.take_total_time.Goals as goal

pub returns-then-is_bypassed : goal.returns-then-is_bypassed
returns-then-is_bypassed g c =
    leaves_out (spec.is_bypassed c.args.machine.now.program c.args.has_any c.args.has_control) _ _ c.args.machine.now c.requires.ready (λ previous. sym c.is_bypassed.ensures ∙ c.if-is_bypassed.true)

pub returns : goal.returns
returns g c =
    leaves_in (spec.is_bypassed c.args.machine.now.program c.args.has_any c.args.has_control) (λ previous. sym c.is_bypassed.ensures ∙ c.if-is_bypassed.false) c.do_totals.ensures
