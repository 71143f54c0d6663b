use Rattle.std.proofs.Common.{◌∙◌, cond, ap, sym}
use Rattle.rpg_cards.specs.Calculations.{group_end}
use Rattle.rpg_faults_flow.proofs.Groups.{may_depend_here}
use Rattle.rpg_faults_flow.specs.Columns.{may_depend}
use Rattle.rpg_faults_flow.specs.OpenGroups.{may_depend_in}
use Rattle.rpg_faults_flow.proofs.columns.OpenGroup.allows_conditions.Goals as goal

pub returns-in-Some-clause-group : goal.returns-in-Some-clause-group
returns-in-Some-clause-group c = λ before is.
    let k = c.args.calculation.now in
    let after = c.args.after.now in
    sym (ap (λ known. may_depend_in known k after) c.in-Some.is
    ∙ ap (λ b. cond b c.in-Some.may_depend (may_depend (group_end k after))) (sym c.joins.ensures ∙ c.if-joins.true))
    ∙ may_depend_here before k after c.args.self is
