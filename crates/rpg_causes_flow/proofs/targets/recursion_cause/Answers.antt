use Rattle.std.proofs.Common.{◌∙◌, ap, sym}
use Rattle.std.specs.Prelude.{is_some}
use Rattle.rpg_causes_flow.proofs.TargetRules.{calls_one}
use Rattle.rpg_causes_flow.proofs.targets.recursion_cause.Goals as goal

pub returns-then-calls_itself-clause-rule : goal.returns-then-calls_itself-clause-rule
returns-then-calls_itself-clause-rule c =
    let broken = sym c.calls_itself.ensures ∙ c.if-calls_itself.true in
    ap is_some c.target_on.ensures ∙ calls_one c.args.labels.now c.args.before.now c.args.card.now c.args.after.now broken ∙ sym broken
