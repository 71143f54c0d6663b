use Rattle.std.proofs.Common.{ap, ◌∙◌, unsigned_abs}
use Rattle.std.proofs.lemmas.Int.{to_z-of_z}
use Rattle.std.specs.Int.{is_negative}
use Rattle.rpg_edit_marks.specs.Code.{kept_digits}
use Rattle.rpg_edit.proofs.how.pass_by.Goals as goal

pub returns : goal.returns
returns c =
    let made = c.new.ensures in
    let hidden = c.suppression_by.ensures in
    let number = to_z-of_z _ _ c.ranges.n in
    let begun = made.begins in
    record {
      begins = record { negative = begun.negative ∙ ap is_negative number; size = begun.size ∙ ap unsigned_abs number; start = begun.start; after = begun.after };
      kept = ap (λ s. s.kept) made.suppression ∙ hidden.kept ∙ ap (kept_digits c.args.code c.args.len c.args.dec) (c.unsigned_abs.ensures.value ∙ ap unsigned_abs number);
      fill = ap (λ s. s.fill) made.suppression ∙ hidden.fill;
    }
