use Rattle.std.proofs.Common.{◌≤◌, ◌<◌, ◌^◌, subst}
use Rattle.rpg_cycle.proofs.Staging.{can_do, lines_few, phase_ends, phase_then}
use Rattle.rpg_cycle.specs.Phases.{output}
use Rattle.rpg_cycle.specs.Spending.{cycle_weight}
use Rattle.rpg_machine.specs.Outputs.{output_weight}
use Rattle.rpg_machine.specs.declared.time.OutputTime.TheVariants as times
use Rattle.rpg_program.specs.Object.{Object}
use Rattle.rpg_verify.specs.Bound.{bound}
use Rattle.rpg_cycle.proofs.phases.do_totals.Goals as goal

pub calculate-requires-clause-can : goal.calculate-requires-clause-can
calculate-requires-clause-can g c = can_do c.requires

pub output_lines-requires : goal.output_lines-requires
output_lines-requires g c = record {
  ready = c.in_ok-calculate.ensures.ready;
  few = lines_few c.args.machine.now.program c.requires.few c.in_ok-calculate.ensures.spends
      (subst (λ (o : Object). cycle_weight o ≤ bound o) c.program.ensures c.is_bounded.ensures.sum)
      (subst (λ (o : Object). bound o < 2 ^ 48) c.program.ensures c.is_bounded.ensures.few);
}

pub returns-in_err-calculate : goal.returns-in_err-calculate
returns-in_err-calculate g c =
    let p = c.args.machine.now.program in
    phase_ends (output p times.Total) (output_weight p times.Total) c.in_err-calculate.field-0.0 c.from_residual.result c.from_residual.ensures.1 c.in_err-calculate.ensures

pub returns : goal.returns
returns g c = phase_then (λ (o : Object). output o times.Total) (λ (o : Object). output_weight o times.Total) c.in_ok-calculate.ensures c.output_lines.ensures
