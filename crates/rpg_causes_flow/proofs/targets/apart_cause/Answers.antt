use Rattle.std.proofs.Common.{◌∙◌, ap, sym}
use Rattle.std.specs.Prelude.{is_some}
use Rattle.rpg_causes_flow.proofs.TargetRules.{leaves_for_one}
use Rattle.rpg_causes_flow.proofs.targets.apart_cause.Goals as goal

pub returns-then-leaves_its_section-clause-rule : goal.returns-then-leaves_its_section-clause-rule
returns-then-leaves_its_section-clause-rule c =
    let broken = sym c.leaves_its_section.ensures ∙ c.if-leaves_its_section.true in
    ap is_some c.target_on.ensures ∙ leaves_for_one c.args.labels.now c.args.before.now c.args.card.now c.args.after.now broken ∙ sym broken
