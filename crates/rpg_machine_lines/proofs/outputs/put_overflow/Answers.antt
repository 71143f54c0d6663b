use Rattle.std.proofs.Common.{subst}
use Rattle.rpg_program.proofs.Fronts.{grows_on}
use Rattle.rpg_program.specs.Ends.{end_of}
use Rattle.rpg_program.specs.Put.{IsDone}
use Rattle.rpg_program.specs.declared.line.Pass.TheVariants as passes
use Rattle.rpg_machine_lines.proofs.Following.{halted, ok_each, went_on}
use Rattle.rpg_machine_lines.specs.Outputs.{output_of, overflow_detail_effect, passage_effect}
use Rattle.rpg_program.specs.Object.{Object}
use Rattle.rpg_memory.specs.Memory.{held_of}
use Rattle.rpg_machine_lines.proofs.outputs.put_overflow.Goals as goal

pub returns-clause-done : goal.returns-clause-done
returns-clause-done g c =
    let p = c.args.memory.now.program in
    let w = held_of c.args.memory.now in
    let v = held_of c.put_lines.new.memory in
    let u = held_of c.put_overflow_details.new.memory in
    let q = output_of c.args.output.now in
    let o = output_of c.put_lines.new.output in
    let t = output_of c.put_overflow_details.new.output in
    let total = passage_effect p passes.OverflowTotal in
    ok_each c.put_overflow_details.result _ _
    (λ e h. went_on total (overflow_detail_effect p) w v q o _ c.in_ok-put_lines.ensures.done u t (end_of e) c.in-Continues.is
    (subst (λ (x : Object). IsDone (overflow_detail_effect x) v o (end_of e) u t) c.put_lines.ensures.kept.program h))
    c.put_overflow_details.ensures.done

pub returns-in-Halt-clause-done : goal.returns-in-Halt-clause-done
returns-in-Halt-clause-done g c =
    let p = c.args.memory.now.program in
    let w = held_of c.args.memory.now in
    let v = held_of c.put_lines.new.memory in
    let q = output_of c.args.output.now in
    let o = output_of c.put_lines.new.output in
    let total = passage_effect p passes.OverflowTotal in
    halted total (overflow_detail_effect p) w v q o _ c.in_ok-put_lines.ensures.done c.in-Halt.halt c.in-Halt.is

pub returns-clause-grows : goal.returns-clause-grows
returns-clause-grows g c =
    grows_on (output_of c.args.output.now) (output_of c.put_lines.new.output) (output_of c.put_overflow_details.new.output)
    c.put_lines.ensures.grows c.put_overflow_details.ensures.grows
