use Rattle.std.proofs.Common.{ap, ◌∙◌, unsigned_abs}
use Rattle.std.proofs.lemmas.Int.{to_z-of_z}
use Rattle.std.specs.Int.{is_negative}
use Rattle.rpg_edit_marks.specs.Code.{code_marks, dollar_in, fill_of, kept_digits}
use Rattle.rpg_edit.proofs.Written.{is_written, finished_text}
use Rattle.rpg_edit.proofs.how.write_seldom.Goals as goal

pub returns-clause-text : goal.returns-clause-text
returns-clause-text c =
    let marks = code_marks c.args.code c.args.fill c.args.len c.args.dec in
    let made = c.pass_by-pass.ensures in
    let number = to_z-of_z _ _ c.ranges.n in
    let kept = kept_digits c.args.code c.args.len c.args.dec in
    finished_text marks c.args.n (kept (unsigned_abs c.args.n)) (fill_of c.args.fill) _ _ _ (dollar_in c.args.fill) _
    (is_written marks c.args.n (kept (unsigned_abs c.args.n)) (fill_of c.args.fill) _ _ _ _
    (made.begins.negative ∙ ap is_negative number) (made.begins.size ∙ ap unsigned_abs number) (made.kept ∙ ap (λ z. kept (unsigned_abs z)) number) made.fill
    made.begins.start made.begins.after c.put_by.ensures)
    c.finish.ensures
