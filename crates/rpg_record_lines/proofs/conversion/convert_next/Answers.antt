use Rattle.std.proofs.Common.{◌+◌, ap, arith, [], Some, None}
use Rattle.rpg_record_lines.proofs.StepLemmas.{dropped_taken, fault_taken, refused_taken, taken_end, taken_part, text_taken}
use Rattle.std.proofs.KnownBytes.{Appends-nil}
use Rattle.rpg_record_lines.proofs.TextLemmas.{frame_next, line_next}
use Rattle.rpg_record_lines.specs.Inputs.{offset_of, remaining_of}
use Rattle.rpg_record_lines.specs.Ways.{input_place_at, text_by, conversion_settings}
use Rattle.rpg_record_lines.specs.declared.conversion.Counts.{Counts}
use Rattle.rpg_record_lines.proofs.conversion.convert_next.Goals as goal

pub returns-in-Ok-End-clause-step : goal.returns-in-Ok-End-clause-step
returns-in-Ok-End-clause-step g c = taken_end (conversion_settings c.args.maker.now c.args.frames.now) (input_place_at c.args.counts c.args.frames.now) (remaining_of g.R.Read.remaining c.args.frames.now) (remaining_of g.R.Read.remaining c.next.new.self) (offset_of c.next.new.self) (offset_of c.next.new.self) c.next.new.room.items (g.W.Write.contents c.args.writer.now) (rw c.in-Ok-End.field-0-is at c.in-Ok-End.ensures.next)

pub returns-in-Err-clause-step : goal.returns-in-Err-clause-step
returns-in-Err-clause-step g c = fault_taken (conversion_settings c.args.maker.now c.args.frames.now) (input_place_at c.args.counts c.args.frames.now) (remaining_of g.R.Read.remaining c.args.frames.now) (remaining_of g.R.Read.remaining c.next.new.self) (offset_of c.next.new.self) (offset_of c.next.new.self) c.position-offset.result c.next.new.room.items (g.W.Write.contents c.args.writer.now) c.in-Err.fault c.frame_fault.result c.position-offset.ensures c.frame_fault.ensures c.in-Err.ensures.next

pub returns-in-Ok-false-clause-step : goal.returns-in-Ok-false-clause-step
returns-in-Ok-false-clause-step g c = dropped_taken (conversion_settings c.args.maker.now c.args.frames.now) (input_place_at c.args.counts c.args.frames.now) (remaining_of g.R.Read.remaining c.args.frames.now) (remaining_of g.R.Read.remaining c.next.new.self) (offset_of c.next.new.self) c.next.new.room.items (g.W.Write.contents c.args.writer.now) c.with_dropped.result c.with_dropped.ensures (rw c.in-Ok-Record.field-0-is at c.in-Ok-Record.ensures.next) (rw c.in-Ok-false.field-0-test at c.in-Ok-false.ensures.text)

pub returns-in-Err-make-clause-step : goal.returns-in-Err-make-clause-step
returns-in-Err-make-clause-step g c = refused_taken (conversion_settings c.args.maker.now c.args.frames.now) (input_place_at c.args.counts c.args.frames.now) (remaining_of g.R.Read.remaining c.args.frames.now) (remaining_of g.R.Read.remaining c.next.new.self) (offset_of c.next.new.self) (offset_of c.next.new.self) c.position-offset.result c.next.new.room.items (g.W.Write.contents c.args.writer.now) c.in-Err-make.fault c.line_fault.result c.position-offset.ensures c.line_fault.ensures (rw c.in-Ok-Record.field-0-is at c.in-Ok-Record.ensures.next) c.in-Err-make.ensures.fault

pub returns-in-Ok-clause-counts : goal.returns-in-Ok-clause-counts
returns-in-Ok-clause-counts g c = let e = c.with_written.ensures [] in let f = ap (λ (x : Counts). x.records + x.dropped) e in omega (arith, f)

pub returns-in-Ok-clause-step : goal.returns-in-Ok-clause-step
returns-in-Ok-clause-step g c = text_taken (conversion_settings c.args.maker.now c.args.frames.now) (input_place_at c.args.counts c.args.frames.now) (remaining_of g.R.Read.remaining c.args.frames.now) (remaining_of g.R.Read.remaining c.next.new.self) (offset_of c.next.new.self) c.next.new.room.items c.make.new.room.made.items (g.W.Write.contents c.args.writer.now) (g.W.Write.contents c.send.new.writer) c.with_written.result (c.with_written.ensures c.make.new.room.made.items) (rw c.in-Ok-Record.field-0-is at c.in-Ok-Record.ensures.next) (rw c.in-Ok-true.field-0-test at c.in-Ok-true.ensures.text) (rw c.as_slice.ensures.value at c.in-Ok.ensures.all)

pub returns-in-Err-send-clause-step : goal.returns-in-Err-send-clause-step
returns-in-Err-send-clause-step g c = taken_part (conversion_settings c.args.maker.now c.args.frames.now) (input_place_at c.args.counts c.args.frames.now) (remaining_of g.R.Read.remaining c.args.frames.now) (remaining_of g.R.Read.remaining c.next.new.self) (offset_of c.next.new.self) (offset_of c.next.new.self) c.next.new.room.items c.make.new.room.made.items (g.W.Write.contents c.args.writer.now) (g.W.Write.contents c.send.new.writer) (rw c.in-Ok-Record.field-0-is at c.in-Ok-Record.ensures.next) (rw c.in-Ok-true.field-0-test at c.in-Ok-true.ensures.text) (rw c.as_slice.ensures.value at c.in-Err-send.ensures.part)

pub returns-in-Ok-End-clause-text : goal.returns-in-Ok-End-clause-text
returns-in-Ok-End-clause-text g c = Appends-nil (g.W.Write.contents c.args.writer.now)

pub returns-in-Err-clause-text : goal.returns-in-Err-clause-text
returns-in-Err-clause-text g c =
    frame_next (text_by c.args.maker.now) (g.W.Write.contents c.args.writer.now) (record { counts = c.args.counts; offset = c.position-offset.result }) c.in-Err.fault c.frame_fault.result c.frame_fault.ensures

pub returns-in-Ok-false-clause-text : goal.returns-in-Ok-false-clause-text
returns-in-Ok-false-clause-text g c =
    (c.next.new.room.items, None, rw c.in-Ok-false.field-0-test at c.in-Ok-false.ensures.text, c.with_dropped.ensures, Appends-nil (g.W.Write.contents c.args.writer.now))

pub returns-in-Err-make-clause-text : goal.returns-in-Err-make-clause-text
returns-in-Err-make-clause-text g c =
    line_next (text_by c.args.maker.now) (g.W.Write.contents c.args.writer.now) (record { counts = c.args.counts; offset = c.position-offset.result }) c.in-Err-make.fault c.line_fault.result c.line_fault.ensures

pub returns-in-Ok-clause-text : goal.returns-in-Ok-clause-text
returns-in-Ok-clause-text g c = (
  c.next.new.room.items,
  Some c.make.new.room.made.items,
  rw c.in-Ok-true.field-0-test at c.in-Ok-true.ensures.text,
  c.with_written.ensures c.make.new.room.made.items,
  rw c.as_slice.ensures.value at c.in-Ok.ensures.all,
)

pub returns-in-Err-send-clause-text : goal.returns-in-Err-send-clause-text
returns-in-Err-send-clause-text g c =
    (c.next.new.room.items, c.make.new.room.made.items, rw c.in-Ok-true.field-0-test at c.in-Ok-true.ensures.text, rw c.as_slice.ensures.value at c.in-Err-send.ensures.part)
