use Rattle.std.proofs.Common.{refl, append_assoc, ◌∙◌}
use Rattle.rpg_program.proofs.Printing.{record_done}
use Rattle.rpg_machine_lines.proofs.Growing.{grows_disk, grows_front}
use Rattle.rpg_machine_lines.specs.Outputs.{output_of}
use Rattle.rpg_memory.specs.Memory.{held_of}
use Rattle.rpg_machine_lines.proofs.printer.write_record.Goals as goal

pub returns : goal.returns
returns g c = record {
  done = record_done c.args.memory.now.program.overflow c.args.spacing c.args.text.now (held_of c.args.memory.now) (output_of c.args.output.now)
      (record { print = c.args.output.now.print.items; disk = c.append_record.new.disk.items }) refl c.in_ok-append_record.ensures.items;
  grows = grows_disk (output_of c.args.output.now) (record { print = c.args.output.now.print.items; disk = c.append_record.new.disk.items }) _ refl
      (c.in_ok-append_record.ensures.items ∙ append_assoc c.args.output.now.disk.items c.args.text.now _);
}

pub returns-in_err-append_record-clause-grows : goal.returns-in_err-append_record-clause-grows
returns-in_err-append_record-clause-grows g c =
    grows_front (output_of c.args.output.now) (record { print = c.args.output.now.print.items; disk = c.append_record.new.disk.items }) _ refl
    c.in_err-append_record.ensures.front
