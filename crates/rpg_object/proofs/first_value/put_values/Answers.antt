use Rattle.std.proofs.Common.{◌<◌, length, drop, map, arith, ap, ◌+◌}
use Rattle.std.proofs.lemmas.List.{length-map}
use Rattle.rpg_program.specs.Values.{entries_held}
use Rattle.rpg_object_format.specs.Format.{times_with}
use Rattle.rpg_object_format.proofs.Loop.{writes_on, all_written, mapped-at, mapped-drop}
use Rattle.rpg_object.specs.FirstValues.{values_format, next_entries, later_fields}
use Rattle.rpg_object.proofs.FieldsLeft.{next_entries-drop, later_fields-drop, entries-at}
use Rattle.rpg_object.proofs.first_value.put_values.Goals as goal

pub put_entries-requires-clause-entries : goal.put_entries-requires-clause-entries
put_entries-requires-clause-entries c =
    let all = map entries_held c.args.list.now in
    let within : c.loop-i.i < length c.args.list.now = omega (arith, c.requires.number, c.loop-i-test.true) in
    let same = mapped-at entries_held c.args.list.now c.loop-i.i c.index-list-i.result within c.index-list-i.is in
    rw (c.as_slice.ensures, ← same) (entries-at c.args.fields.now all c.loop-i.i _ (entries_held c.index-list-i.result) c.requires.values c.loop-i-test.true)

pub loop-i-preserved : goal.loop-i-preserved
loop-i-preserved c =
    let all = map entries_held c.args.list.now in
    let within : c.loop-i.i < length c.args.list.now = omega (arith, c.requires.number, c.loop-i-test.true) in
    let more = mapped-drop entries_held c.args.list.now c.loop-i.i c.index-list-i.result within c.index-list-i.is in
    let entries = entries_held c.index-list-i.result in
    let later = later_fields-drop c.args.fields.now c.loop-i.i entries in
    let text = ap (λ f. f.spelling entries) (next_entries-drop c.args.fields.now c.loop-i.i _ c.loop-i-test.true) in
    rw (c.in_ok-put_entries.ensures, c.as_slice.ensures) (writes_on (λ s vs. (next_entries s).spelling vs) later_fields c.loop-i.out.items _ (drop c.loop-i.i c.args.fields.now) (drop (c.loop-i.i + 1) c.args.fields.now) all c.loop-i.i entries _ more text later c.loop-i.invariant)

pub returns : goal.returns
unfolding values_format times_with
returns c =
    let all = map entries_held c.args.list.now in
    all_written (λ s vs. (next_entries s).spelling vs) later_fields c.loop-i.out.items (drop c.loop-i.i c.args.fields.now) all c.loop-i.i _ (omega (arith, c.requires.number, length-map c.args.list.now entries_held, c.loop-i-test.false)) c.loop-i.invariant
