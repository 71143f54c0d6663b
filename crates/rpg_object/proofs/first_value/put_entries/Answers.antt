use Rattle.std.proofs.Common.{map, arith, refl}
use Rattle.std.proofs.lemmas.List.{length-map}
use Rattle.rpg_program.specs.Values.{held}
use Rattle.rpg_object_format.specs.Format.{keep, times_with}
use Rattle.rpg_object_format.proofs.Loop.{writes_on, all_written, mapped-drop, mapped_keeps}
use Rattle.rpg_program.specs.Kept.{IsValueOf}
use Rattle.rpg_object.specs.FirstValues.{entries_format, value}
use Rattle.rpg_object.proofs.first_value.put_entries.Goals as goal

pub put_value-requires-clause-value : goal.put_value-requires-clause-value
put_value-requires-clause-value c = mapped_keeps held (IsValueOf c.args.form.kind c.args.form.length) c.args.entries.now c.loop-value.value-index c.value-item.result c.loop-value-test.true c.value-item.is c.requires.entries.each

pub loop-value-preserved : goal.loop-value-preserved
unfolding value
loop-value-preserved c =
    let more = mapped-drop held c.args.entries.now c.loop-value.value-index c.value-item.result c.loop-value-test.true c.value-item.is in
    rw c.in_ok-put_value.ensures (writes_on (λ s v. (value c.args.form.kind c.args.form.length).spelling v) keep c.loop-value.out.items _ tt tt (map held c.args.entries.now) c.loop-value.value-index (held c.value-item.result) _ more refl refl c.loop-value.invariant)

pub returns : goal.returns
unfolding entries_format times_with
returns c = all_written (λ s v. (value c.args.form.kind c.args.form.length).spelling v) keep c.loop-value.out.items tt (map held c.args.entries.now) c.loop-value.value-index _ (omega (arith, length-map c.args.entries.now held, c.loop-value-test.false)) c.loop-value.invariant
