use Rattle.rpg_program.specs.Object.{type_row}
use Rattle.rpg_object_rows.specs.Types.{control_field_format, input_field_format, record_code_format}
use Rattle.rpg_object_rows.proofs.TableTexts.{as_they_are, type_written}
use Rattle.rpg_object_rows.proofs.record_type.put_record_type.Goals as goal

pub returns : goal.returns
returns c =
    let t = type_row c.args.record_type.now in
    let codes = as_they_are record_code_format.spelling t.codes _ _ (rw c.deref.ensures.value at c.in_ok-put_rows.ensures) in
    let levels = as_they_are control_field_format.spelling t.levels _ _ (rw c.deref-2.ensures.value at c.in_ok-put_rows-2.ensures) in
    let inputs = as_they_are input_field_format.spelling t.inputs _ _ (rw c.deref-3.ensures.value at c.in_ok-put_rows-3.ensures) in
    let matches = as_they_are control_field_format.spelling t.matches _ _ (rw c.deref-4.ensures.value at c.in_ok-put_rows-4.ensures) in
    type_written c.args.version t c.requires.plain c.args.out.now.items _ _ _ _ _ c.in_ok-put_type_head.ensures codes levels inputs matches
