use Rattle.std.proofs.Common.{map, arith, refl}
use Rattle.std.proofs.lemmas.List.{length-map}
use Rattle.rpg_object_format.specs.Format.{keep, times_with}
use Rattle.rpg_object_format.proofs.Loop.{writes_on, all_written, mapped-drop, mapped_keeps}
use Rattle.rpg_program.specs.Kept.{IsPlainType, IsTypeRow}
use Rattle.rpg_program.specs.Object.{type_row}
use Rattle.rpg_object_rows.specs.Types.{record_type_format}
use Rattle.rpg_object_rows.proofs.record_type.put_record_types.Goals as goal

pub put_record_type-requires-clause-row : goal.put_record_type-requires-clause-row
put_record_type-requires-clause-row c = mapped_keeps type_row IsTypeRow c.args.types.now c.loop-record_type.record_type-index c.record_type-item.result c.loop-record_type-test.true c.record_type-item.is c.requires.rows

pub put_record_type-requires-clause-plain : goal.put_record_type-requires-clause-plain
put_record_type-requires-clause-plain c = λ one. mapped_keeps type_row IsPlainType c.args.types.now c.loop-record_type.record_type-index c.record_type-item.result c.loop-record_type-test.true c.record_type-item.is (c.requires.plain one)

pub loop-record_type-preserved : goal.loop-record_type-preserved
loop-record_type-preserved c =
    let more = mapped-drop type_row c.args.types.now c.loop-record_type.record_type-index c.record_type-item.result c.loop-record_type-test.true c.record_type-item.is in
    rw c.in_ok-put_record_type.ensures (writes_on (λ s t. (record_type_format c.args.version).spelling t) keep c.loop-record_type.out.items _ tt tt (map type_row c.args.types.now) c.loop-record_type.record_type-index (type_row c.record_type-item.result) _ more refl refl c.loop-record_type.invariant)

pub returns : goal.returns
unfolding times_with
returns c = all_written (λ s t. (record_type_format c.args.version).spelling t) keep c.loop-record_type.out.items tt (map type_row c.args.types.now) c.loop-record_type.record_type-index _ (omega (arith, length-map c.args.types.now type_row, c.loop-record_type-test.false)) c.loop-record_type.invariant
