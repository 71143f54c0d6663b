use Rattle.rpg_record_lines.proofs.StepLemmas.{full_fault, full_record, last_end}
use Rattle.rpg_record_lines.proofs.TextLemmas.{frame_end}
use Rattle.rpg_record_lines.specs.Inputs.{framing_of, most_of, offset_of, remaining_of}
use Rattle.rpg_record_lines.specs.Ways.{input_place_at}
use Rattle.rpg_record_lines.proofs.conversion.end_full_file.Goals as goal

pub returns-in-Ok-End-clause-known : goal.returns-in-Ok-End-clause-known
returns-in-Ok-End-clause-known g c = last_end (framing_of c.args.frames.now) (most_of c.args.frames.now) (input_place_at c.args.counts c.args.frames.now) (remaining_of g.R.Read.remaining c.args.frames.now) (remaining_of g.R.Read.remaining c.next.new.self) (offset_of c.next.new.self) c.next.new.room.items (rw c.in-Ok-End.field-0-is at c.in-Ok-End.ensures.next)

pub returns-in-Ok-Record-clause-known : goal.returns-in-Ok-Record-clause-known
returns-in-Ok-Record-clause-known g c = full_record (framing_of c.args.frames.now) (most_of c.args.frames.now) c.position-offset.result (input_place_at c.args.counts c.args.frames.now) (remaining_of g.R.Read.remaining c.args.frames.now) (remaining_of g.R.Read.remaining c.next.new.self) (offset_of c.next.new.self) c.next.new.room.items c.refused.result c.position-offset.ensures c.refused.ensures (rw c.in-Ok-Record.field-0-is at c.in-Ok-Record.ensures.next)

pub returns-in-Err-clause-known : goal.returns-in-Err-clause-known
returns-in-Err-clause-known g c = full_fault (framing_of c.args.frames.now) (most_of c.args.frames.now) c.position-offset.result (input_place_at c.args.counts c.args.frames.now) (remaining_of g.R.Read.remaining c.args.frames.now) (remaining_of g.R.Read.remaining c.next.new.self) (offset_of c.next.new.self) c.next.new.room.items c.in-Err.fault c.frame_fault.result c.position-offset.ensures c.frame_fault.ensures c.in-Err.ensures.next

pub returns-in-Err-clause-any : goal.returns-in-Err-clause-any
returns-in-Err-clause-any g c = frame_end (record { counts = c.args.counts; offset = c.position-offset.result }) c.in-Err.fault c.frame_fault.result c.frame_fault.ensures
