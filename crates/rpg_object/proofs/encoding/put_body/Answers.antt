use Rattle.std.proofs.Common.{arith}
use Rattle.std.proofs.lemmas.List.{length-map}
use Rattle.rpg_program.specs.Values.{entries_held}
use Rattle.rpg_object_format.specs.Format.{times_with}
use Rattle.rpg_program.specs.Object.{seen}
use Rattle.rpg_object.specs.Subroutines.{subroutines}
use Rattle.rpg_object.proofs.FieldLaws.{lengths_kept}
use Rattle.rpg_object.proofs.FieldsLeft.{as_many}
use Rattle.rpg_object.proofs.Texts.{program_written}
use Rattle.rpg_object.proofs.encoding.put_body.Goals as goal

pub put_header-requires : goal.put_header-requires
put_header-requires c = λ one. (c.requires.plain one).secondary

pub put_record_types-requires-clause-rows : goal.put_record_types-requires-clause-rows
put_record_types-requires-clause-rows c = rw c.deref-4.ensures.value c.requires.types

pub put_record_types-requires-clause-plain : goal.put_record_types-requires-clause-plain
put_record_types-requires-clause-plain c = λ one. rw c.deref-4.ensures.value ((c.requires.plain one).types)

pub put_values-requires-clause-lengths : goal.put_values-requires-clause-lengths
put_values-requires-clause-lengths c = rw c.deref-2.ensures.value (lengths_kept c.args.rows.now.fields.items c.requires.fields)

pub put_values-requires-clause-number : goal.put_values-requires-clause-number
put_values-requires-clause-number c = rw (c.deref-2.ensures.value, c.deref-3.ensures.value) (omega (arith, as_many _ _ c.requires.values, length-map c.args.rows.now.values.items entries_held))

pub put_values-requires-clause-values : goal.put_values-requires-clause-values
put_values-requires-clause-values c = rw (c.deref-2.ensures.value, c.deref-3.ensures.value) c.requires.values

pub returns : goal.returns
unfolding times_with subroutines
returns c =
    program_written (seen c.args.rows.now) c.args.out.now.items _ _ _ _ _ _ _ _ (rw (c.settings_of.ensures, c.counts_of.ensures) at c.in_ok-put_header.ensures) (rw c.deref.ensures.value at c.in_ok-put_fields.ensures) (rw (c.deref-2.ensures.value, c.deref-3.ensures.value) at c.in_ok-put_values.ensures)
    (rw c.deref-4.ensures.value at c.in_ok-put_record_types.ensures) (rw c.deref-5.ensures.value at c.in_ok-put_lines.ensures) (rw c.deref-6.ensures.value at c.in_ok-put_instructions.ensures) (rw c.deref-7.ensures.value at c.in_ok-put_instructions-2.ensures) (rw c.deref-8.ensures.value at c.in_ok-put_subroutines.ensures)
