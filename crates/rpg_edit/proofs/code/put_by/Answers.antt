use Rattle.std.proofs.Common.{◌≡◌, ◌-◌, ◌&&◌, ◌||◌, ◌∙◌, ap, arith, eqb}
use Rattle.std.specs.Prelude.{nat_le}
use Rattle.rpg_edit_marks.specs.Code.{dollar_marks, whole_marks, decimal_marks, ending_marks, kept_digits}
use Rattle.rpg_edit.proofs.Codes.{decimal_places, kept_whole, writes-parts}
use Rattle.rpg_edit.proofs.code.put_by.Goals as goal

pub returns-in-Combination : goal.returns-in-Combination
returns-in-Combination c =
    let parts = c.in-Combination in
    rw parts.is (writes-parts (dollar_marks c.args.fill) (whole_marks parts.commas (c.args.len - c.args.dec)) (decimal_marks c.args.dec) (ending_marks parts.ending)
    _ _ _ _ _ _ _ _ _ _ c.put_ending.ensures c.put_decimals.ensures c.put_whole.ensures c.put_dollar_place.ensures)

pub put_whole-requires-clause-kept : goal.put_whole-requires-clause-kept
put_whole-requires-clause-kept c =
    let size = c.args.pass.now.number.size in
    let decimals = c.put_decimals.ensures in
    let pass = c.put_decimals.new.pass in
    let same : pass.suppression.kept ≡ kept_digits c.args.code c.args.len c.args.dec size =
    ap (λ s. s.kept) (decimals.suppression ∙ c.put_ending.ensures.suppression) ∙ c.requires.kept in
    ap (λ k. nat_le k pass.after || (eqb pass.after 0 && nat_le k 1)) same
    ∙ kept_whole c.args.code _ _ _ c.args.len c.args.dec size pass.after c.in-Combination.is (omega (arith, decimals.after, decimal_places c.args.dec))
