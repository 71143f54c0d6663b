use Rattle.std.proofs.Common.{ap, ◌∙◌, unsigned_abs}
use Rattle.std.proofs.lemmas.Int.{to_z-of_z}
use Rattle.std.specs.Int.{is_negative}
use Rattle.rpg_edit_marks.specs.Word.{digits_after_stop, word_fill}
use Rattle.rpg_edit.proofs.Written.{is_written, written_text}
use Rattle.rpg_edit.proofs.how.write_worded.Goals as goal

pub returns-clause-text : goal.returns-clause-text
returns-clause-text c =
    let word = c.args.word.now in
    let marks = c.marks.result.now in
    let made = c.new-pass.ensures in
    let hidden = c.suppression.ensures in
    let number = to_z-of_z _ _ c.ranges.n in
    rw c.marks.ensures at (written_text marks c.args.n (digits_after_stop word) (word_fill word) _ _ _
    (is_written marks c.args.n (digits_after_stop word) (word_fill word) _ _ _ _
    (made.begins.negative ∙ ap is_negative number) (made.begins.size ∙ ap unsigned_abs number)
    (ap (λ s. s.kept) made.suppression ∙ hidden.kept) (ap (λ s. s.fill) made.suppression ∙ hidden.fill)
    made.begins.start made.begins.after c.put_all.ensures))
