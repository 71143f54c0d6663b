use Rattle.std.proofs.Common.{◌≡◌, drop}
use Rattle.rpg_program.specs.Ends.{End}
use Rattle.rpg_program.specs.Fronts.{OnlyGrows}
use Rattle.rpg_program.specs.Put.{Bytes, Held, IsDone}
use Rattle.rpg_machine_lines.proofs.AllLines.{rest}
use Rattle.rpg_machine_lines.specs.Outputs.{output_of}
use Rattle.rpg_machine_lines.specs.PassLines.{pass_lines}
use Rattle.rpg_machine_lines.specs.Ready.{IsNear}
use Rattle.rpg_memory.specs.Memory.{held_of}
use Rattle.rpg_machine_lines.proofs.passage.put_lines.Given as goal

abbrev pub invariant-lines : goal.invariant-lines
invariant-lines g l = record {
  near : IsNear l.memory.world.paper.here;
  program : l.memory.program ≡ l.fn.memory.program;
  grows : OnlyGrows (output_of l.fn.output) (output_of l.output);
  onward : (e : End) (v : Held) (o : Bytes) →
      IsDone (rest l.fn.memory.program l.pass (drop l.listed-index (pass_lines l.fn.memory.program l.pass))) (held_of l.memory) (output_of l.output) e v o →
      IsDone (rest l.fn.memory.program l.pass (pass_lines l.fn.memory.program l.pass)) (held_of l.fn.memory) (output_of l.fn.output) e v o;
}
