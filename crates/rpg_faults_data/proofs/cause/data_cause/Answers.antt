use Rattle.std.proofs.Common.{◌∙◌, ap}
use Rattle.std.specs.Option.{is_some}
use Rattle.rpg_faults_data.proofs.DataRule.{data_rule}
use Rattle.rpg_faults_data.proofs.cause.data_cause.Goals as goal

pub returns-clause-rule : goal.returns-clause-rule
returns-clause-rule c =
    ap is_some (c.of_card.ensures c.args.source.now c.args.before.now c.requires) ∙ data_rule c.args.source.now c.args.before.now c.args.card.now
