use Rattle.std.proofs.Common.{◌∙◌, sym}
use Rattle.rpg_cards.specs.Calculations.{open_calculation_group}
use Rattle.rpg_faults_limits.proofs.CalculationLemmas.{is_in_subroutine-push}
use Rattle.rpg_faults_limits.proofs.calculations.Calculations.is_subroutine_after.Goals as goal

pub returns-in-None : goal.returns-in-None
returns-in-None c = sym (is_in_subroutine-push c.args.before.now c.args.card.now _ c.in-None.ensures)

pub returns-in-Some : goal.returns-in-Some
returns-in-Some c =
    c.is_subroutine_with.ensures (open_calculation_group c.args.before.now) c.requires ∙ sym (is_in_subroutine-push c.args.before.now c.args.card.now _ c.in-Some.ensures)
