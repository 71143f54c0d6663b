use Rattle.std.proofs.Common.{map, arith, refl}
use Rattle.std.proofs.lemmas.List.{length-map}
use Rattle.rpg_object_format.specs.Format.{keep}
use Rattle.rpg_object_format.proofs.Loop.{writes_on, all_written, mapped-drop, mapped_keeps}
use Rattle.rpg_object_rows.proofs.table.put_rows.Goals as goal

pub put_row-requires : goal.put_row-requires
put_row-requires g c = mapped_keeps g.T.Row.seen g.T.Row.Keeps c.args.rows.now c.loop-row.row-index c.row-item.result c.loop-row-test.true c.row-item.is c.requires

pub loop-row-preserved : goal.loop-row-preserved
loop-row-preserved g c =
    let more = mapped-drop g.T.Row.seen c.args.rows.now c.loop-row.row-index c.row-item.result c.loop-row-test.true c.row-item.is in
    rw c.in_ok-put_row.ensures (writes_on (λ s x. g.T.Row.spell x) keep c.loop-row.out.items _ tt tt (map g.T.Row.seen c.args.rows.now) c.loop-row.row-index (g.T.Row.seen c.row-item.result) _ more refl refl c.loop-row.invariant)

pub returns : goal.returns
returns g c = all_written (λ s x. g.T.Row.spell x) keep c.loop-row.out.items tt (map g.T.Row.seen c.args.rows.now) c.loop-row.row-index _ (omega (arith, length-map c.args.rows.now g.T.Row.seen, c.loop-row-test.false)) c.loop-row.invariant
