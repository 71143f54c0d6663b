use Rattle.std.proofs.Common.{◌&&◌, ◌∙◌, sym, ap}
use Rattle.rpg_cards.specs.Calculations.{open_calculation_group}
use Rattle.rpg_cards.specs.Statements.{statement_of}
use Rattle.rpg_cards.specs.Labels.{is_begsr}
use Rattle.rpg_faults_limits.proofs.CalculationLemmas.{begins-on}
use Rattle.rpg_faults_limits.proofs.calculations.Calculations.begins.Goals as goal

pub returns-then-is_subroutine_with : goal.returns-then-is_subroutine_with
returns-then-is_subroutine_with c =
    let before = c.args.before.now in
    let last = c.in-Some.calculation.now in
    let of_subroutine = sym c.if-is_subroutine_with.true ∙ c.is_subroutine_with.ensures (open_calculation_group before) c.requires in
    c.begins_subroutine.ensures ∙ ap (λ b. b && is_begsr (statement_of last)) of_subroutine ∙ sym (begins-on before c.args.card.now c.args.after.now last c.in-Some.ensures)
