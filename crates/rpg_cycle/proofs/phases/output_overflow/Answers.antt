use Rattle.std.proofs.Common.{Option, ℕ, sym, ap, ◌∙◌}
use Rattle.rpg_cycle.proofs.Spending.{page_spends}
use Rattle.rpg_cycle.proofs.Staging.{leaves_in, leaves_out, weighs}
use Rattle.rpg_cycle.proofs.Turning.{overflow_on}
use Rattle.rpg_cycle.specs.Phases as spec
use Rattle.rpg_program.specs.Object.{Object}
use Rattle.rpg_cycle.proofs.phases.output_overflow.Goals as goal

pub returns-then-has_no_overflow : goal.returns-then-has_no_overflow
returns-then-has_no_overflow g c =
    let a = c.args.machine.now in
    let off = ap (λ (o : Option ℕ). spec.has_no_overflow o a.config) (sym (c.overflow_of.ensures.value ∙ ap (λ (q : Object). q.overflow.indicator) c.program.ensures)) ∙ sym c.has_no_overflow.ensures ∙ c.if-has_no_overflow.true in
    leaves_out (spec.has_no_overflow a.program.overflow.indicator) _ _ a c.requires.ready (λ previous. overflow_on previous a.program.overflow.indicator a.config ∙ off)

pub returns : goal.returns
returns g c =
    let a = c.args.machine.now in
    let on = ap (λ (o : Option ℕ). spec.has_no_overflow o a.config) (sym (c.overflow_of.ensures.value ∙ ap (λ (q : Object). q.overflow.indicator) c.program.ensures)) ∙ sym c.has_no_overflow.ensures ∙ c.if-has_no_overflow.false in
    weighs (page_spends a.program a.config on)
    (leaves_in (spec.has_no_overflow a.program.overflow.indicator) (λ previous. overflow_on previous a.program.overflow.indicator a.config ∙ on) c.output_lines.ensures)
