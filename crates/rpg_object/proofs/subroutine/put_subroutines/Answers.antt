use Rattle.std.proofs.Common.{◌≤◌, length, map, arith, refl}
use Rattle.std.proofs.lemmas.List.{length-map}
use Rattle.rpg_object_format.specs.Format.{keep}
use Rattle.rpg_object_format.proofs.Loop.{writes_on, all_written, mapped-drop, mapped_keeps}
use Rattle.rpg_program.specs.Kept.{IsSubroutineRow}
use Rattle.rpg_program.specs.Object.{subroutine_row}
use Rattle.rpg_object.proofs.SubroutineLaws.{each_few, subroutine_text, subroutines_text}
use Rattle.rpg_object.proofs.subroutine.put_subroutines.Goals as goal

pub put_subroutine-requires-clause-few : goal.put_subroutine-requires-clause-few
put_subroutine-requires-clause-few c = mapped_keeps subroutine_row (λ s. length s.instructions ≤ 8192) c.args.list.now c.loop-subroutine.subroutine-index c.subroutine-item.result c.loop-subroutine-test.true c.subroutine-item.is (each_few 8192 (map subroutine_row c.args.list.now) c.requires.few)

pub put_subroutine-requires-clause-row : goal.put_subroutine-requires-clause-row
put_subroutine-requires-clause-row c = mapped_keeps subroutine_row IsSubroutineRow c.args.list.now c.loop-subroutine.subroutine-index c.subroutine-item.result c.loop-subroutine-test.true c.subroutine-item.is c.requires.rows

pub loop-subroutine-preserved : goal.loop-subroutine-preserved
loop-subroutine-preserved c =
    let more = mapped-drop subroutine_row c.args.list.now c.loop-subroutine.subroutine-index c.subroutine-item.result c.loop-subroutine-test.true c.subroutine-item.is in
    rw c.in_ok-put_subroutine.ensures (writes_on (λ u s. subroutine_text s) keep c.loop-subroutine.out.items _ tt tt (map subroutine_row c.args.list.now) c.loop-subroutine.subroutine-index (subroutine_row c.subroutine-item.result) _ more refl refl c.loop-subroutine.invariant)

pub returns : goal.returns
returns c =
    rw (subroutines_text (length c.args.list.now) 8192 (map subroutine_row c.args.list.now)) (all_written (λ u s. subroutine_text s) keep c.loop-subroutine.out.items tt (map subroutine_row c.args.list.now) c.loop-subroutine.subroutine-index _ (omega (arith, length-map c.args.list.now subroutine_row, c.loop-subroutine-test.false)) c.loop-subroutine.invariant)
