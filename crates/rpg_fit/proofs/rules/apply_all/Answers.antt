use Rattle.std.proofs.Common.{arith}
use Rattle.rpg_fit.specs.declared.rules.TheConstants.{RULES}
use Rattle.rpg_fit.proofs.Turns.{turn, whole}
use Rattle.rpg_fit.proofs.rules.apply_all.Goals as goal

pub loop-rule-preserved : goal.loop-rule-preserved
loop-rule-preserved g c =
    λ last rest. c.loop-rule.invariant last
    (turn (g.R.Rules.leaves c.args.rules.now) RULES c.loop-rule.rule-index _ c.loop-rule.editor c.apply_in_turn.new.editor last (omega arith) c.apply_in_turn.ensures rest)

pub returns : goal.returns
returns g c = c.loop-rule.invariant c.loop-rule.editor (whole (g.R.Rules.leaves c.args.rules.now) RULES c.loop-rule.rule-index c.loop-rule.editor (omega arith))
