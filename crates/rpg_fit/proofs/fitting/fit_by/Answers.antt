use Rattle.std.proofs.lemmas.Result.{err_from_is_err_and}
use Rattle.rpg_fit.specs.declared.rules.TheConstants.{RULES}
use Rattle.rpg_fit.proofs.Reasons.{reason}
use Rattle.rpg_fit.proofs.fitting.fit_by.Goals as goal

pub returns-clause-accepted : goal.returns-clause-accepted
returns-clause-accepted g c =
    (c.apply_all.new.editor, (c.in_ok-editor.editor, c.in_ok-editor.ensures, c.apply_all.ensures), c.in_ok-fitted.ensures.went_on, c.in_ok-fitted.ensures.its_own)

pub returns-in_err-fitted-clause-rejected : goal.returns-in_err-fitted-clause-rejected
returns-in_err-fitted-clause-rejected g c =
    let e = err_from_is_err_and c.from_residual-in_err-fitted.result c.from_residual-in_err-fitted.ensures.1 in
    rw (e.1, e.2)
    (reason (g.R.Rules.leaves c.args.rules.now) RULES c.args.source.now c.apply_all.new.editor c.in_err-fitted.field-0.0
    (c.in_ok-editor.editor, c.in_ok-editor.ensures, c.apply_all.ensures) c.in_err-fitted.ensures.stopped)
