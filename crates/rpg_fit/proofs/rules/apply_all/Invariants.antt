use Rattle.std.proofs.Common.{drop}
use Rattle.rpg_fit_deck.specs.declared.editor.Editor.{Editor}
use Rattle.rpg_fit.specs.Applied.{Applied}
use Rattle.rpg_fit.specs.declared.rules.TheConstants.{RULES}
use Rattle.rpg_fit.proofs.rules.apply_all.Given as goal

abbrev pub invariant-loop-rule : goal.invariant-loop-rule
invariant-loop-rule g l =
    (last : Editor) → Applied (g.R.Rules.leaves l.rules) (drop l.rule-index RULES) l.editor last → Applied (g.R.Rules.leaves l.rules) RULES l.initial.editor last
