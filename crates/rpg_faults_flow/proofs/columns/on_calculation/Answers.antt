use Rattle.std.proofs.Common.{◌≡◌, ◌∙◌, Some, ap, sym}
use Rattle.std.specs.Option.{option_map_or}
use Rattle.std.specs.Prelude.{false, option_and_then, option_copied}
use Rattle.rpg_cards.specs.Calculations.{open_calculation_group}
use Rattle.rpg_cards.specs.Cards.{calculation_on}
use Rattle.rpg_faults_flow.proofs.Tests.{bad_is}
use Rattle.rpg_faults_flow.specs.ColumnCauses.{calculation_column_cause}
use Rattle.rpg_faults_flow.specs.Columns.{bad_calculation}
use Rattle.rpg_faults_flow.proofs.columns.on_calculation.Goals as goal

pub returns-in-Some-clause-cause : goal.returns-in-Some-clause-cause
returns-in-Some-clause-cause c =
    let before = c.args.before.now in
    let here : calculation_on c.args.card.now.spec ≡ Some c.in-Some.calculation.now = sym c.calculation.ensures ∙ ap option_copied c.in-Some.is in
    c.of_calculation.ensures.cause before (record { card = c.args.card.now; here = here; group = c.requires })
    ∙ ap (option_and_then (λ k. calculation_column_cause (open_calculation_group before) k c.args.after.now)) (sym here)

pub returns-in-Some-clause-rule : goal.returns-in-Some-clause-rule
returns-in-Some-clause-rule c =
    let before = c.args.before.now in
    let here : calculation_on c.args.card.now.spec ≡ Some c.in-Some.calculation.now = sym c.calculation.ensures ∙ ap option_copied c.in-Some.is in
    c.of_calculation.ensures.rule before (record { card = c.args.card.now; here = here; group = c.requires })
    ∙ bad_is (open_calculation_group before) c.in-Some.calculation.now c.args.after.now
    ∙ ap (λ x. option_map_or (λ k. bad_calculation (open_calculation_group before) k c.args.after.now) x false) (sym here)
