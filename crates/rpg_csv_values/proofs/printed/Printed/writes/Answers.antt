use Rattle.std.proofs.Common.{◌≡◌, length, refl, sym, to_z-of_z, ◌∙◌}
use Rattle.std.specs.Cmp.Lexicographic.{same_text}
use Rattle.rpg_edit_marks.specs.Code.{code_marks, coded}
use Rattle.rpg_csv_values.proofs.NumberLemmas.{written_text}
use Rattle.rpg_csv_values.proofs.printed.Printed.writes.Goals as goal

pub returns : goal.returns
returns c e =
    let d = c.args.self.digits in
    let p = c.args.self.decimals in
    let same = same_text _ _ (sym e ∙ c.eq.ensures) in
    let number = to_z-of_z c.ranges.number in
    let text = rw number at c.write_coded-start.ensures.text in
    let size : length c.write_coded-start.new.out ≡ 32 = c.write_coded-start.auto.out in
    written_text c.write_coded-start.new.out _ (coded c.args.number d p c.args.code c.args.fill) c.args.columns.now c.write_coded-start.result (length (code_marks c.args.code c.args.fill d p))
    c.write_coded-start.ensures.start refl size text same
