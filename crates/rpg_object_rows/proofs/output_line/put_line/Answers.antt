use Rattle.rpg_program.specs.Object.{line_row}
use Rattle.rpg_object_rows.specs.Lines.{line_field}
use Rattle.rpg_object_rows.proofs.TableTexts.{as_they_are, line_written}
use Rattle.rpg_object_rows.proofs.output_line.put_line.Goals as goal

pub returns : goal.returns
returns c =
    let l = line_row c.args.line.now in
    let fields = as_they_are line_field.spelling l.fields _ _ (rw c.deref-2.ensures.value at c.in_ok-put_rows-2.ensures) in
    line_written l c.args.out.now.items _ _ _ c.in_ok-put_line_head.ensures (rw c.deref.ensures.value at c.in_ok-put_rows.ensures) fields
