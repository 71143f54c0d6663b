use Rattle.std.proofs.Common.{ap, ◌∙◌}
use Rattle.rpg_program.proofs.Putting.{quiet_done}
use Rattle.rpg_program.specs.Effect.{Leaves}
use Rattle.rpg_program.specs.Ends.{Continues}
use Rattle.rpg_program.specs.Lines.{settled}
use Rattle.rpg_program.specs.Put.{on_paper}
use Rattle.rpg_program.specs.declared.line.Pass.TheVariants as passes
use Rattle.rpg_machine_lines.proofs.Following.{halted, went_on}
use Rattle.rpg_machine_lines.specs.Outputs.{output_of, passage_effect}
use Rattle.rpg_program.specs.Object.{Object}
use Rattle.rpg_memory.specs.Memory.{Working, held_of}
use Rattle.rpg_machine_lines.proofs.outputs.put_details.Goals as goal

pub returns-clause-done : goal.returns-clause-done
returns-clause-done g c =
    let p = c.args.memory.now.program in
    let w = held_of c.args.memory.now in
    let v = held_of c.put_lines.new.memory in
    let q = output_of c.args.output.now in
    let o = output_of c.put_lines.new.output in
    let u = held_of c.settle.new.self in
    went_on (passage_effect p passes.Detail) (λ x. Leaves (settled p.overflow x)) w v q o _ c.in_ok-put_lines.ensures.done u o Continues c.in-Continues.is
    (quiet_done (settled p.overflow) Continues v u o (ap (λ (m : Working). m.last) c.settle.ensures)
    (λ x. ap (λ (m : Working). on_paper x m.world) c.settle.ensures ∙ ap (λ (p : Object). on_paper x (settled p.overflow v.world)) c.put_lines.ensures.kept.program))

pub returns-in-Halt-clause-done : goal.returns-in-Halt-clause-done
returns-in-Halt-clause-done g c =
    let p = c.args.memory.now.program in
    let w = held_of c.args.memory.now in
    let v = held_of c.put_lines.new.memory in
    let q = output_of c.args.output.now in
    let o = output_of c.put_lines.new.output in
    halted (passage_effect p passes.Detail) (λ x. Leaves (settled p.overflow x)) w v q o _ c.in_ok-put_lines.ensures.done c.in-Halt.halt c.in-Halt.is
